-- The cost of the active edges: document 01, "Graph, residual, assembly". An f32 sum from +0 of squares, active edges in order, six components in order,
-- every partial sum finite. Definitions only.
use Rattle.numbers.specs.declared.Failure.{Failure}
use Rattle.exp_log.specs.Formats.{Twist}
use Rattle.costs.specs.declared.BadEdge.{BadEdge}
use Rattle.std.specs.Prelude.{ℕ, List, get_or, Float, Err, Ok, Result}
use Rattle.std.specs.Float.{nan}
use Rattle.numbers.specs.Notation.{◌⊞◌, ◌⊠◌, num}
use Rattle.numbers.specs.Walks.{Ended, done, stopped, each, well, only, must_be_finite, Went}
use Rattle.rotations.specs.declared.Pose.{Pose}
use Rattle.graph.specs.Graph.{Links, is_active}
use Rattle.graph.specs.declared.Edge.{Edge}
use Rattle.residual.specs.Residuals.{residual_of, six_of}

-- one more square, of the j-th of six numbers
unfoldable pub square_step : List Float → ℕ → Float → Went × Float
square_step six j c = let v = get_or six j nan in let s = c ⊞ v ⊠ v in (must_be_finite s, s)

-- what a residual adds to a cost
unfoldable pub priced : Result Twist Failure → Float → Went × Float
priced (Ok d) c = well (each (square_step (six_of d)) 6 c)
priced (Err why) c = (Err why, c)

-- what edge k adds, the poses being `pose`
unfoldable pub price_at : Links Edge → (ℕ → Pose) → ℕ → Float → Went × Float
price_at l pose k c = priced (residual_of (pose (l.a k)) (pose (l.b k)) (l.measured k)) c

-- all edges in order, those that are not active passed over
unfoldable pub cost_ends : Links Edge → (ℕ → Pose) → Ended Float
cost_ends l pose = each (λ k. only (is_active l k) (price_at l pose k)) l.edges (num 0)

-- the cost, or the first bad edge among all edges (T2)
abbrev pub cost_from : Ended Float → Result Float BadEdge
cost_from (done c) = Ok c
cost_from (stopped k why c) = Err (record { edge = k; why = why })

unfoldable pub cost_of : Links Edge → (ℕ → Pose) → Result Float BadEdge
cost_of l pose = cost_from (cost_ends l pose)
