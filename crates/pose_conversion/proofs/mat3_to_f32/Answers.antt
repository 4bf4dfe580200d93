use Rattle.pose_conversion.specs.Conversions.{mat_f32}
use Rattle.pose_conversion.proofs.mat3_to_f32.Goals as goal

pub returns : goal.returns
unfolding mat_f32
returns c =
    rw (
      c.vec3_to_f32-3.ensures,
      c.vec3_to_f32-2.ensures,
      c.vec3_to_f32.ensures,
    )
