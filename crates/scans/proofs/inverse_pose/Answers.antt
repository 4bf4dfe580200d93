-- `scans::inverse_pose` meets its contract: the code is the definition. Assumes nothing.
use Rattle.scans.specs.Scans.{inverse_pose}
use Rattle.scans.proofs.inverse_pose.Goals as goal

pub returns : goal.returns
unfolding inverse_pose
returns c = rw (c.negated.ensures, c.turn_vec.ensures, c.transposed-back.ensures)
