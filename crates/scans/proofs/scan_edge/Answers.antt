-- `scans::scan_edge` meets its contract: an edge of the chain, and one of the loops. Assumes nothing.
use borrow.Author.Tests.{lt-ltb, le-ltb}
use Rattle.numbers.proofs.Choices.{taken, left}
use Rattle.scans.specs.Scans.{scan_edge}
use Rattle.scans.proofs.scan_edge.Goals as goal

pub returns-then-k-chain : goal.returns-then-k-chain
unfolding scan_edge
returns-then-k-chain c = taken _ (lt-ltb _ _ c.if-k-chain.true) c.chain_edge.ensures

pub returns : goal.returns
unfolding scan_edge
returns c = left _ (le-ltb _ _ c.if-k-chain.false) c.loop_edge.ensures
