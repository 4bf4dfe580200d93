use Prim.Native.Nat.{ℕ}
use mathlib.Core.Path.{◌≡◌}
use mathlib.Core.List.{List}
use lib.Ieee.{Float}
use Rattle.numbers.specs.Notation.{num}
use Rattle.numbers.specs.Walks.{each, done, only, Went}
use Rattle.graph.specs.Graph.{is_active}
use Rattle.graph.specs.declared.LentLinks.{LentLinks}
use Rattle.graph.specs.Lent.{pose_at, links_lent}
use Rattle.costs.specs.Costs.{price_at}
use Rattle.costs.proofs.cost_over.Given as goal

abbrev pub steps : List Float → LentLinks → ℕ → Float → Went × Float
steps poses links k =
    only (is_active (links_lent links) k) (price_at (links_lent links) (pose_at poses) k)

abbrev pub invariant-loop-k : goal.invariant-loop-k
invariant-loop-k l = each (steps l.poses l.links) l.k (num 0) ≡ done l.c
