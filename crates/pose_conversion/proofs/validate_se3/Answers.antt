use Rattle.pose_conversion.specs.Conversions.{finite_transform}
use Rattle.pose_conversion.proofs.validate_se3.Goals as goal

pub returns : goal.returns
unfolding finite_transform
returns c =
    rw (
      c.vec3_f32_is_finite-4.ensures,
      c.vec3_f32_is_finite-3.ensures,
      c.vec3_f32_is_finite-2.ensures,
      c.vec3_f32_is_finite.ensures,
      c.rebuilt_matrix-m.ensures,
    )
