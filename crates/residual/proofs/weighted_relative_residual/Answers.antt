use Rattle.residual.proofs.Linking.{residual_by}
use Rattle.residual.proofs.weighted_relative_residual.Goals as goal

pub returns : goal.returns
returns c =
    residual_by _ _ _ c.checked_pose_to_se3-from.ensures c.checked_pose_to_se3-to.ensures
    c.linked_of.ensures c.six_in.ensures
