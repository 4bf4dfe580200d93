-- `printable::pose_graph_cost` meets its contract: the loop adds the edges in order. Assumes nothing.
use mathlib.Core.Path.{◌≡◌}
use mathlib.Core.List.{[]}
use Rattle.graph.specs.Lent.{pose_at}
use Rattle.checks.specs.Input.{lent_graph}
use Rattle.printable.specs.Measures.{squares_up_to}
use Rattle.printable.proofs.pose_graph_cost.Given as goal

abbrev pub invariant-loop-k : goal.invariant-loop-k
invariant-loop-k l = l.sum ≡ squares_up_to (lent_graph [] l.ends l.edges []) (pose_at l.poses) l.k
