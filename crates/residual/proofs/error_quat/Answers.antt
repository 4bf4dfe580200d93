use Rattle.residual.specs.EdgeParts.{error_quat}
use Rattle.residual.proofs.error_quat.Goals as goal

pub returns : goal.returns
unfolding error_quat
returns c =
    rw (
      c.rounded_quat.ensures,
      c.quat_product-2.ensures,
      c.rounded_quat-between.ensures,
      c.quat_product.ensures,
    )
