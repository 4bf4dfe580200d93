use Rattle.probes.specs.Stances.{settled_by, swung_by, swings_by}
use Rattle.probes.proofs.swings_by.Goals as goal

pub returns : goal.returns
unfolding swings_by swung_by settled_by
returns c =
    rw (
      c.swing_of-2.ensures,
      c.swing_of.ensures,
      c.matrix_again-n.ensures,
      c.matrix_again-m.ensures,
      c.quat_of_matrix-b.ensures,
      c.quat_of_matrix-a.ensures,
      c.mat3_to_f32-b.ensures,
      c.mat3_to_f32-a.ensures,
      c.matrix_of-b.ensures,
      c.matrix_of-a.ensures,
      c.rounded_quat-b.ensures,
      c.rounded_quat-a.ensures,
      c.quat_product-b.ensures,
      c.step_quat-2.ensures,
      c.quat_product-a.ensures,
      c.step_quat.ensures,
    )
