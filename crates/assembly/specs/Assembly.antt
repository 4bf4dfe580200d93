-- Gradient and Hessian of the active edges: document 01, "Graph, residual, assembly". The system stands in the work of n unknowns in solve's layout:
-- H(i,j), j ≤ i, at j n + i; the gradient at n n + n + i. H's lower triangle only. All f32. Definitions only.
use Rattle.assembly.specs.declared.AssemblyError.TheVariants as assembly_error
use Rattle.assembly.specs.declared.AssemblyError.{AssemblyError}
use Rattle.std.specs.Prelude.{ℕ, Bool, List, ltb, length, Float, Err, None, Ok, Option, Result, Some, ⊤}
use Rattle.numbers.specs.Notation.{if_then}
use Rattle.numbers.specs.Walks.{Ended, done, stopped, each, only, Went}
use Rattle.numbers.specs.declared.Failure.{Failure}
use Rattle.numbers.specs.declared.Failure.TheVariants.{Numerical}
use Rattle.slices.specs.Slices.{zeroed}
use Rattle.rotations.specs.declared.Pose.{Pose}
use Rattle.graph.specs.Graph.{Links, is_active}
use Rattle.graph.specs.Lent.{dof_of}
use Rattle.graph.specs.declared.Edge.{Edge}
use Rattle.graph.specs.declared.Manifold.{Manifold}
use Rattle.residual.specs.Residuals.{residual_of, six_of}
use Rattle.residual.specs.declared.EdgeEndpoint.{EdgeEndpoint}
use Rattle.residual.specs.declared.EdgeEndpoint.TheVariants.{A, B}
use Rattle.profile.specs.Layout.{need}
use Rattle.additions.specs.Additions.{lower_triangle, end_added, ends_added}
use Rattle.jacobians.specs.Jacobians.{with_six, jacobian_of}

-- go on with a Jacobian that could be had
unfoldable pub with_jacobian : Went × List (List Float) → List Float → (List (List Float) → Went × List Float) → Went × List Float
with_jacobian (Ok _, j) w next = next j
with_jacobian (Err why, j) w next = (Err why, w)

-- the work that an assembly starts from: n (n + 3) numbers +0, and the rest as it was
abbrev pub cleared : ℕ → List Float → List Float
cleared n w = zeroed (need n) w

module _ (keeps : ℕ → ℕ → Bool) where
  -- ---- what one edge adds; `keeps` says which entries of the Hessian's blocks are kept

  -- residual, Jacobian of the free end, its gradient and its diagonal block
  unfoldable pub one_of : Manifold → ℕ → Pose → Pose → Edge → EdgeEndpoint → ℕ → List Float → Went × List Float
  one_of m n a b e end i w =
      with_six (residual_of a b e)
      (λ r. with_jacobian (jacobian_of m a b e end) w
      (λ j. end_added keeps n (dof_of m) i j (six_of r) w))
      (λ why. (Err why, w))

  -- residual, Jacobian of a, Jacobian of b, then all three
  unfoldable pub both_of : Manifold → ℕ → Pose → Pose → Edge → ℕ → ℕ → List Float → Went × List Float
  both_of m n a b e i k w =
      with_six (residual_of a b e)
      (λ r. with_jacobian (jacobian_of m a b e A) w
      (λ ja. with_jacobian (jacobian_of m a b e B) w
      (λ jb. ends_added keeps n (dof_of m) i k ja jb (six_of r) w)))
      (λ why. (Err why, w))

  unfoldable pub edge_of : Manifold → ℕ → Pose → Pose → Edge → Option ℕ → Option ℕ → List Float → Went × List Float
  edge_of m n a b e None None w = (Ok tt, w)
  edge_of m n a b e (Some i) None w = one_of m n a b e A i w
  edge_of m n a b e None (Some k) w = one_of m n a b e B k w
  edge_of m n a b e (Some i) (Some k) w = both_of m n a b e i k w

  -- ---- all edges in order, from +0, those that are not active passed over

  unfoldable pub add_at : Manifold → ℕ → Links Edge → (ℕ → Pose) → ℕ → List Float → Went × List Float
  add_at m n l pose k w =
      edge_of m n (pose (l.a k)) (pose (l.b k)) (l.measured k) (l.slot (l.a k)) (l.slot (l.b k)) w

  -- nothing, if it is not active
  abbrev pub edge_step : Manifold → ℕ → Links Edge → (ℕ → Pose) → ℕ → List Float → Went × List Float
  edge_step m n l pose k = only (is_active l k) (add_at m n l pose k)

  abbrev pub ends_by : Manifold → ℕ → Links Edge → (ℕ → Pose) → List Float → Ended (List Float)
  ends_by m n l pose w = each (edge_step m n l pose) l.edges (cleared n w)

-- with the lower triangle kept
unfoldable pub assembled_ends : Manifold → ℕ → Links Edge → (ℕ → Pose) → List Float → Ended (List Float)
assembled_ends m n l pose w = ends_by lower_triangle m n l pose w

-- ---- the answer, and the work that is left: assembled, or the first bad edge among all edges (T2); or the work is shorter than n (n + 3), and is as it was

abbrev pub assembled_from : Ended (List Float) → Result ⊤ AssemblyError × List Float
assembled_from (done w) = (Ok tt, w)
assembled_from (stopped k why w) = (Err (assembly_error.BadEdge k why), w)

unfoldable pub assembled_of : Manifold → ℕ → Links Edge → (ℕ → Pose) → List Float → Result ⊤ AssemblyError × List Float
assembled_of m n l pose w = if_then (ltb (length w) (need n)) (Err assembly_error.Short, w) (assembled_from (assembled_ends m n l pose w))

-- the number of the row that refuses a run, or an assembly alone, whose assembly can't be had
abbrev pub assembly_row : Failure → ℕ
assembly_row Numerical = 21
