use Rattle.pose_conversion.specs.Conversions.{transform_of}
use Rattle.pose_conversion.proofs.pose_to_se3.Goals as goal

pub returns : goal.returns
unfolding transform_of
returns c = rw (c.vec3_to_f32.ensures, c.quat_of_matrix.ensures, c.mat3_to_f32.ensures)
