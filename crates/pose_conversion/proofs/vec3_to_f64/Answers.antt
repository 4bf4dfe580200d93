use Rattle.pose_conversion.specs.Conversions.{vec_f64}
use Rattle.pose_conversion.proofs.vec3_to_f64.Goals as goal

pub returns : goal.returns
unfolding vec_f64
returns c = rw (c.from-3.ensures, c.from-2.ensures, c.from.ensures)
