-- `scans::build_edges` meets its contract: after k turns the array holds the numbers of the first k edges, and zeros. Assumes nothing.
use Prim.Native.Nat.{◌-◌}
use Rattle.numbers.specs.Notation.{num}
use Rattle.scans.specs.Scans.{edge_numbers, scan_edge}
use Rattle.scans.proofs.Strings.{Filled}
use Rattle.scans.proofs.build_edges.Given as goal

abbrev pub invariant-loop-k : goal.invariant-loop-k
invariant-loop-k l = Filled (λ k'. edge_numbers (scan_edge (l.keyframes - 1) l.poses l.loop_poses l.weight k')) 8 8200 (num 0) l.edges l.k
