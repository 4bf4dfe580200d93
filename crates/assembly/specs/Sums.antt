-- The system of an assembly that went well, entry by entry: H = Σ JᵀJ and gradient = Σ Jᵀr over the active edges, in edge order, from +0. Document 01, "Graph,
-- residual, assembly": "sum six products in residual order, then add to the entry, starting from +0". What the store-passing definition `assembled_ends` leaves
-- is this (law `entries_are_sums`). Definitions only.
use Rattle.std.specs.Prelude.{ℕ, zero, suc, ◌/◌, ◌%◌, ◌<◌, ◌≤◌, ◌≡◌, Bool, false, ◌&&◌, ◌||◌, List, [], eqb, get_or, Float, None, Option, Some}
use Rattle.std.specs.Float.{nan}
use Rattle.numbers.specs.Notation.{◌⊞◌, ◌⊠◌, num, if_then}
use Rattle.rotations.specs.declared.Pose.{Pose}
use Rattle.graph.specs.Graph.{Links}
use Rattle.graph.specs.Lent.{dof_of}
use Rattle.graph.specs.declared.Edge.{Edge}
use Rattle.graph.specs.declared.Manifold.{Manifold}
use Rattle.residual.specs.Residuals.{residual_of, six_of}
use Rattle.residual.specs.declared.EdgeEndpoint.{EdgeEndpoint}
use Rattle.residual.specs.declared.EdgeEndpoint.TheVariants.{A, B}
use Rattle.jacobians.specs.Jacobians.{with_six, jacobian_of}
use Rattle.additions.specs.Additions.{cell}
use Rattle.profile.specs.Layout.{hessian_of}
use Rattle.solve.specs.Work.{gradient_of}

-- f 0, f 1, .. f (n - 1) added in this order in f32, from z
unfoldable pub sum_from : Float → (ℕ → Float) → ℕ → Float
sum_from z f zero = z
sum_from z f (suc n) = sum_from z f n ⊞ f n

-- the f k of those k below n that pass the test, added in this order in f32, from +0
unfoldable pub sum_over : (ℕ → Bool) → (ℕ → Float) → ℕ → Float
sum_over t f zero = num 0
sum_over t f (suc n) = if_then (t n) (sum_over t f n ⊞ f n) (sum_over t f n)

module _ (m : Manifold) (l : Links Edge) (pose : ℕ → Pose) where
  -- ---- edge k: its six residuals, and its Jacobian for each of its ends

  abbrev pub six_residuals : ℕ → List Float
  six_residuals k = with_six (residual_of (pose (l.a k)) (pose (l.b k)) (l.measured k)) six_of (λ why. [])

  abbrev pub end_jacobian : ℕ → EdgeEndpoint → List (List Float)
  end_jacobian k end = (jacobian_of m (pose (l.a k)) (pose (l.b k)) (l.measured k) end).1

  -- ---- unknown i is number i % DOF of block i / DOF

  abbrev pub stands_in : ℕ → Option ℕ → Bool
  stands_in i (Some b) = eqb b (i / dof_of m)
  stands_in i None = false

  -- one of the ends of edge k has the unknown i
  abbrev pub concerns : ℕ → ℕ → Bool
  concerns k i = stands_in i (l.slot (l.a k)) || stands_in i (l.slot (l.b k))

  -- how residual c of edge k changes with the unknown i: the Jacobian's number, of the end that has i
  unfoldable pub slope_at : ℕ → ℕ → ℕ → Float
  slope_at k i c = cell (if_then (stands_in i (l.slot (l.a k))) (end_jacobian k A) (end_jacobian k B)) c (i % dof_of m)

  -- ---- what edge k adds to H(i,j) and to number i of the gradient: six products in residual order, from z

  unfoldable pub hessian_part : Float → ℕ → ℕ → ℕ → Float
  hessian_part z i j k = sum_from z (λ c. slope_at k i c ⊠ slope_at k j c) 6

  unfoldable pub gradient_part : Float → ℕ → ℕ → Float
  gradient_part z i k = sum_from z (λ c. slope_at k i c ⊠ get_or (six_residuals k) c nan) 6

  -- ---- and their sums, over the edges that have both unknowns, or the one

  abbrev pub hessian_sum : Float → ℕ → ℕ → Float
  hessian_sum z i j = sum_over (λ k. concerns k i && concerns k j) (hessian_part z i j) l.edges

  abbrev pub gradient_sum : Float → ℕ → Float
  gradient_sum z i = sum_over (λ k. concerns k i) (gradient_part z i) l.edges

  -- the system of n unknowns in the work w is these sums
  pub record IsSums (z : Float) (n : ℕ) (w : List Float) : Type 0 where
    pub matrix : (i j : ℕ) → j ≤ i → i < n → hessian_of w n i j ≡ hessian_sum z i j
    pub gradient : (i : ℕ) → i < n → gradient_of w n i ≡ gradient_sum z i
