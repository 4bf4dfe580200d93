-- `scans::between` meets its contract: the code is the definition. Assumes nothing.
use Rattle.scans.specs.Scans.{between}
use Rattle.scans.proofs.between.Goals as goal

pub returns : goal.returns
unfolding between
returns c = rw (c.pose_product.ensures, c.inverse_pose.ensures)
