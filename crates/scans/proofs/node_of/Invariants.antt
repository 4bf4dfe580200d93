-- `scans::node_of` meets its contract: at the loop's test, no keyframe from the k-th on has the id. Assumes nothing.
use mathlib.Core.Path.{◌≡◌}
use Rattle.scans.specs.Scans.{node_of, node_below}
use Rattle.scans.proofs.node_of.Given as goal

abbrev pub invariant-loop-k : goal.invariant-loop-k
invariant-loop-k l = node_of l.ids l.id ≡ node_below l.ids l.id l.k
