use Rattle.probes.specs.Stances.{swung_by}
use Rattle.probes.proofs.swing_by.Goals as goal

pub returns : goal.returns
unfolding swung_by
returns c =
    rw (
      c.settled.ensures,
      c.mat3_to_f32.ensures,
      c.matrix_of.ensures,
      c.rounded_quat-b.ensures,
      c.quat_product.ensures,
    )
