-- How a proof goes by what could be had of a Jacobian, and by what could not. Assumes nothing.
use Rattle.std.specs.Prelude.{Err, Ok, Result}
use mathlib.Core.Path.{◌≡◌, refl, sym, ap, ◌∙◌}
use mathlib.Core.List.{List}
use mathlib.Core.Bool.{Bool, true, false, ◌&&◌}
use Prim.Native.Nat.{ℕ, ◌+◌, ◌*◌, ◌<◌, ◌≤◌}
use native.Mathlib.Omega.{arith}
use borrow.Author.Tests.{le-leb, lt-leb, le-ltb, lt-ltb, leb-true, ltb-true}
use lib.Dec.{ltb, leb}
use lib.ListN.{length}
use lib.Ieee.{Float}
use Rattle.numbers.specs.Notation.{if_then}
use Rattle.numbers.specs.Walks.{Ended, done, each, Went}
use Rattle.numbers.proofs.Walking.{each_more, each_all, each_early}
use Rattle.numbers.specs.declared.Failure.{Failure}
use Rattle.numbers.specs.declared.Failure.TheVariants.{Numerical}
use Rattle.exp_log.specs.Formats.{Twist}
use Rattle.pose_conversion.specs.Conversions.{converting}
use Rattle.residual.specs.declared.Link.{Link}
use Rattle.jacobians.specs.Jacobians.{with_six, put_six, zeros}
use Rattle.jacobians.specs.Cells.{stowed_probes, column_shared, column_step_shared, jacobian_by, cells_of, first_probe, jacobian_at}
use Rattle.residual.specs.declared.EdgeEndpoint.{EdgeEndpoint}
use Rattle.residual.specs.declared.Hinge.{Hinge}
use Rattle.residual.specs.EdgeParts.{hinge_of}
use Rattle.costs.specs.Stowed.{stowed_in}
use Rattle.rotations.specs.Rotation.{wide}
use Rattle.rotations.specs.Formats.{Rigid, Transform}
use Rattle.graph.specs.declared.Edge.{Edge}

-- ---- a Jacobian, column by column
module _ (dof : ℕ) (l : Link) (end : EdgeEndpoint) (shift : Hinge) (cell : ℕ → Bool → Edge) where
  abbrev pub columns_to : ℕ → Ended (List (List Float))
  columns_to k = each (column_step_shared l end shift cell) k zeros

  module _ (k : ℕ) {n : ℕ} {j : List (List Float)} (d : n ≡ dof) (i : columns_to k ≡ done j) where
    pub column_more : {x : Result Twist Failure} {t : Twist} {j' : List (List Float)} → x ≡ column_shared l end shift k (cell k true) (cell k false) → x ≡ Ok t
        → j' ≡ put_six j k t → columns_to (k + 1) ≡ done j'
    unfolding column_step_shared with_six
    column_more h f q = each_more _ _ _ i (rw (← h, f) (ap (λ (l : List (List Float)). (Ok tt, l)) (sym q)))

    pub jacobian_stopped : {x : Result Twist Failure} {why : Failure} → x ≡ column_shared l end shift k (cell k true) (cell k false) → x ≡ Err why → k < n
        → (Err why, j) ≡ jacobian_by dof l end shift cell
    unfolding jacobian_by column_step_shared with_six
    jacobian_stopped h f b = each_early _ _ _ _ i (rw (← h, f)) (rw (← d) b)

    pub jacobian_whole : k ≡ n → (Ok tt, j) ≡ jacobian_by dof l end shift cell
    unfolding jacobian_by
    jacobian_whole b = each_all _ _ _ _ i (b ∙ d)

-- ---- the first probe, and what follows where it could be had
module _ (known : List Float) (x : ℕ) where
  pub few_cells : length known < 26624 → Err Numerical ≡ first_probe known x
  unfolding first_probe if_then
  few_cells h = rw (lt-leb 26624 (length known) h)

  pub no_cells : 26624 ≤ length known → 256 ≤ x → Err Numerical ≡ first_probe known x
  unfolding first_probe if_then
  no_cells h g = rw (le-leb 26624 (length known) h, le-ltb x 256 g)

  pub has_cells : 26624 ≤ length known → x < 256 → stowed_in known (256 + x * 12) ≡ first_probe known x
  unfolding first_probe if_then
  has_cells h g = rw (le-leb 26624 (length known) h, lt-ltb x 256 g) (ap (stowed_in known) (omega arith))

  pub cells_there : {t : Transform} → first_probe known x ≡ Ok t → (26624 ≤ length known) × (x < 256)
  unfolding first_probe if_then
  cells_there {t} e = go (leb 26624 (length known)) (ltb x 256) (leb-true 26624 (length known)) (ltb-true x 256) e
    where
      go : (a b : Bool) → (a ≡ true → 26624 ≤ length known) → (b ≡ true → x < 256)
          → if_then (a && b) (stowed_probes known x 0 true) (Err Numerical) ≡ Ok t → (26624 ≤ length known) × (x < 256)
      go true true f g e = (f refl, g refl)
      go true false f g e = absurd (let z : ◌≡◌ {A = ℕ} 0 1 = cc in omega arith)
      go false b f g e = absurd (let z : ◌≡◌ {A = ℕ} 0 1 = cc in omega arith)

  module _ (dof : ℕ) (l : Link) (end : EdgeEndpoint) where
    pub first_lost : {first : Result Transform Failure} {why : Failure} → first ≡ first_probe known x → first ≡ Err why
        → (Err why, zeros) ≡ jacobian_at known x dof l end
    unfolding jacobian_at converting
    first_lost h e = rw (← h, e)

    pub first_had : {first : Result Transform Failure} {t : Transform} {f : Rigid} {shift : Hinge} {r : Went × List (List Float)} → first ≡ first_probe known x
        → first ≡ Ok t → f ≡ wide t → shift ≡ hinge_of l end f.q → r ≡ jacobian_by dof l end shift (cells_of known x)
        → r ≡ jacobian_at known x dof l end
    unfolding jacobian_at converting
    first_had h e g k q = rw (← h, e, ← g, ← k) q
