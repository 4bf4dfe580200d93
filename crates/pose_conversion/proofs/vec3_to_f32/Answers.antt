use Rattle.pose_conversion.specs.Conversions.{vec_f32}
use Rattle.pose_conversion.proofs.vec3_to_f32.Goals as goal

pub returns : goal.returns
unfolding vec_f32
returns c = rw (c.narrow-3.ensures, c.narrow-2.ensures, c.narrow.ensures)
