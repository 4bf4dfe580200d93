use mathlib.Core.Path.{◌≡◌, ◌∙◌, ap}
use mathlib.Core.List.{[]}
use Prim.Native.Nat.{◌-◌, ◌/◌}
use native.Mathlib.Omega.{arith}
use lib.ListN.{length}
use lib.Ieee.{of_bits}
use Rattle.numbers.specs.Notation.{ratio, ◌⊗◌}
use Rattle.graph.specs.Lent.{pose_at}
use Rattle.checks.specs.Input.{lent_graph}
use Rattle.printable.specs.Measures.{squares_up_to, pose_graph_cost}
use Rattle.printable.proofs.Measuring.{squares_none, squares_more}
use Rattle.printable.proofs.pose_graph_cost.Goals as goal

pub loop-k-init : goal.loop-k-init
loop-k-init c =
    let a = c.args in
    squares_none (lent_graph [] a.ends.now a.edges.now []) (pose_at a.poses.now)

pub loop-k-preserved : goal.loop-k-preserved
loop-k-preserved c =
    let a = c.args in
    rw (c.add_residual-sum.ensures, c.weighted_edge_residual.ensures)
    (squares_more (lent_graph [] a.ends.now a.edges.now []) (pose_at a.poses.now) c.loop-k.k c.loop-k.invariant)

pub returns : goal.returns
unfolding pose_graph_cost ratio of_bits
returns c =
    let a = c.args in
    let e : c.loop-k.k ≡ length a.ends.now / 2 = omega arith in
    ap (λ s. ratio 1 2 ⊗ s) (c.loop-k.invariant ∙ ap (squares_up_to (lent_graph [] a.ends.now a.edges.now []) (pose_at a.poses.now)) e)
