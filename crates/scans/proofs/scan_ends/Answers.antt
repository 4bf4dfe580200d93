-- `scans::scan_ends` meets its contract: an edge of the chain, and one of the loops, whose keyframes' numbers are small. Assumes nothing.
use Prim.Native.Nat.{◌≤◌}
use native.Mathlib.Omega.{arith}
use mathlib.Core.Path.{refl}
use borrow.Author.Tests.{lt-ltb, le-ltb}
use lib.ListN.{length}
use Rattle.numbers.proofs.Choices.{taken, left}
use Rattle.scans.specs.Scans.{node_number, scan_ends}
use Rattle.scans.proofs.Nodes.{node_small}
use Rattle.scans.proofs.scan_ends.Goals as goal

pub returns-then-k-chain : goal.returns-then-k-chain
unfolding scan_ends
returns-then-k-chain c = taken _ (lt-ltb _ _ (rw c.saturating_sub-chain.ensures at c.if-k-chain.true)) refl

pub node_number-requires : goal.node_number-requires
node_number-requires c =
    let a = c.args in
    let s : node_number c.loop_nodes-candidate.result.0 ≤ length a.ids.now = node_small _ _ c.loop_nodes-candidate.ensures.0 in
    omega arith

pub node_number-requires-2 : goal.node_number-requires-2
node_number-requires-2 c =
    let a = c.args in
    let s : node_number c.loop_nodes-candidate.result.1 ≤ length a.ids.now = node_small _ _ c.loop_nodes-candidate.ensures.1 in
    omega arith

pub returns : goal.returns
unfolding scan_ends
returns c =
    left _ (le-ltb _ _ (rw c.saturating_sub-chain.ensures at c.if-k-chain.false))
    (rw (c.node_number-2.ensures, c.node_number.ensures, c.loop_nodes-candidate.ensures.1, c.loop_nodes-candidate.ensures.0, c.saturating_sub-chain.ensures))
