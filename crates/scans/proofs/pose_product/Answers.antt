-- `scans::pose_product` meets its contract: the code is the definition. Assumes nothing.
use Rattle.scans.specs.Scans.{pose_product}
use Rattle.scans.proofs.pose_product.Goals as goal

pub returns : goal.returns
unfolding pose_product
returns c = rw (c.sum_of.ensures, c.turn_vec.ensures, c.mat_product.ensures)
