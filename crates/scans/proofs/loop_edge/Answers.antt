-- `scans::loop_edge` meets its contract: the code is the definition. Assumes nothing.
use Rattle.scans.specs.Scans.{loop_edge}
use Rattle.scans.proofs.loop_edge.Goals as goal

pub returns : goal.returns
unfolding loop_edge
returns c = rw (c.pose_to_se3.ensures, c.pose_at.ensures)
