use Rattle.additions.specs.Additions.{lower_triangle}
use Rattle.assembly.specs.Assembly.{edge_step}
use Rattle.graph.specs.Lent.{pose_at, links_lent}
use Rattle.numbers.specs.Walks.{each, done}
use lib.ListN.{length}
use mathlib.Core.Path.{◌≡◌}
use Prim.Native.Nat.{◌≤◌, ◌-◌}
use Rattle.assembly.proofs.add_edges.Given as goal

abbrev pub invariant-loop-k : goal.invariant-loop-k
invariant-loop-k l =
    (l.k ≤ l.k-end) × (length l.w ≡ length l.initial.w)
    × (each (edge_step lower_triangle l.shape.manifold l.shape.n (links_lent l.links) (pose_at l.poses)) l.k l.initial.w ≡ done l.w)

abbrev pub decreases-loop-k : goal.decreases-loop-k
decreases-loop-k l = l.k-end - l.k
