use Rattle.probes.specs.Stances.{settled_by}
use Rattle.probes.proofs.settled.Goals as goal

pub returns : goal.returns
unfolding settled_by
returns c = rw (c.swing_of.ensures, c.matrix_again.ensures, c.quat_of_matrix-q.ensures)
