use Rattle.retraction.specs.Retraction.{turned_pose}
use Rattle.retraction.proofs.turned_pose.Goals as goal

pub returns : goal.returns
unfolding turned_pose
returns c =
    rw (
      c.negated.ensures,
      c.turn_vec.ensures,
      c.mat_product-rotation.ensures,
      c.matrix_of.ensures,
    )
