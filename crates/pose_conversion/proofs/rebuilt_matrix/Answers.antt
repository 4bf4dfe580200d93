use Rattle.pose_conversion.specs.Conversions.{rebuilt}
use Rattle.pose_conversion.proofs.rebuilt_matrix.Goals as goal

pub returns : goal.returns
unfolding rebuilt
returns c = rw (c.mat3_to_f32.ensures, c.matrix_of.ensures, c.widened-u.ensures)
