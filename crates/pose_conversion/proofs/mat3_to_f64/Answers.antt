use Rattle.pose_conversion.specs.Conversions.{mat_f64}
use Rattle.pose_conversion.proofs.mat3_to_f64.Goals as goal

pub returns : goal.returns
unfolding mat_f64
returns c = rw (c.vec3_to_f64-3.ensures, c.vec3_to_f64-2.ensures, c.vec3_to_f64.ensures)
