-- `scans::chain_edge` meets its contract: the code is the definition. Assumes nothing.
use lib.Ieee.{of_bits}
use Rattle.numbers.specs.Notation.{ratio}
use Rattle.scans.specs.Scans.{chain_edge}
use Rattle.scans.proofs.chain_edge.Goals as goal

pub returns : goal.returns
unfolding chain_edge ratio of_bits
returns c = rw (c.pose_to_se3.ensures, c.between-p.ensures, c.pose_at-2.ensures, c.pose_at.ensures)
