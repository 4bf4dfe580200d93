use Rattle.pose_conversion.specs.Conversions.{pose_of}
use Rattle.pose_conversion.proofs.se3_to_pose.Goals as goal

pub returns : goal.returns
unfolding pose_of
returns c =
    rw (
      c.vec3_to_f64.ensures,
      c.mat3_to_f64.ensures,
      c.rebuilt_matrix.ensures,
    )
