use Rattle.pose_conversion.specs.Conversions.{finite_pose}
use Rattle.pose_conversion.proofs.validate_pose.Goals as goal

pub returns : goal.returns
unfolding finite_pose
returns c =
    rw (
      c.vec3_f64_is_finite-4.ensures,
      c.vec3_f64_is_finite-3.ensures,
      c.vec3_f64_is_finite-2.ensures,
      c.vec3_f64_is_finite.ensures,
    )
