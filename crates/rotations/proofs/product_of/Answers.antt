use Rattle.rotations.specs.Rotation.{product}
use Rattle.rotations.proofs.product_of.Goals as goal

pub returns : goal.returns
unfolding product
returns c =
    rw (
      c.finish.ensures,
      c.sum_of.ensures,
      c.turn_vec.ensures,
      c.quat_product.ensures,
      c.matrix_of-m.ensures,
      c.widened-v.ensures,
      c.widened-u.ensures,
    )
