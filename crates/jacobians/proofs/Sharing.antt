-- Where all shifts of an end have one quaternion the Jacobian that shares their hinge is the one of the definition. Assumes nothing.
use Prim.Native.Nat.{ℕ, ◌<◌}
use Rattle.std.specs.Prelude.{Err, Ok, Result}
use mathlib.Core.Path.{◌≡◌, refl, sym, ap, ap₂, ◌∙◌}
use mathlib.Core.Bool.{Bool, true, false}
use mathlib.Core.List.{List}
use native.Mathlib.Omega.{arith}
use borrow.Author.Tests.{ltb-true, lt-ltb, le-leb}
use lib.Dec.{ltb}
use lib.ListN.{length}
use lib.Ieee.{Float, lt}
use Rattle.numbers.specs.Notation.{num, if_then}
use Rattle.numbers.specs.Walks.{well}
use Rattle.numbers.specs.declared.Failure.{Failure}
use Rattle.numbers.specs.declared.Failure.TheVariants.{Numerical}
use Rattle.numbers.proofs.Walking.{each_none, each_early, each_ext}
use Rattle.rotations.specs.Rotation.{wide}
use Rattle.rotations.specs.Formats.{Vec3, Transform}
use Rattle.exp_log.specs.Formats.{Twist}
use Rattle.pose_conversion.specs.Conversions.{converting}
use Rattle.graph.specs.Lent.{dof_of}
use Rattle.graph.specs.declared.Edge.{Edge}
use Rattle.graph.specs.declared.Manifold.{Manifold}
use Rattle.graph.specs.declared.Manifold.TheVariants.{Se3, Gravity}
use Rattle.residual.specs.EdgeParts.{hinge_of, residual_at, residuals_at}
use Rattle.costs.specs.Stowed.{stowed_from}
use Rattle.residual.specs.declared.EdgeEndpoint.{EdgeEndpoint}
use Rattle.residual.specs.declared.Hinge.{Hinge}
use Rattle.residual.specs.declared.Link.{Link}
use Rattle.residual.proofs.Linking.{moved_residual_lem}
use Rattle.jacobians.specs.Jacobians.{with_six, derivative, zeros}
use Rattle.jacobians.specs.FromProbes.{moved_in, column_in, column_step_in, SharesTurn, jacobian_in}
use Rattle.jacobians.specs.Cells.{stowed_probes, hinge_along, hinges_along, column_by, column_shared, column_step_shared, jacobian_by, jacobian_shared}
use Rattle.jacobians.specs.Cells.{cells_of, first_probe, jacobian_at}

-- a cell that holds something holds its numbers
stowed_is : (a : Edge) (t : Transform) → stowed_from a ≡ Ok t → a.measured ≡ t
unfolding stowed_from if_then
stowed_is a t e = go (lt (num 0) a.weight) e
  where
    go : (b : Bool) → if_then b (Ok a.measured) (Err Numerical) ≡ Ok t → a.measured ≡ t
    go true e = cc
    go false e = absurd (let z : ◌≡◌ {A = ℕ} 0 1 = cc in omega arith)

-- ---- both sides worked out, whether they are asked for or not

-- the quaternion of a probe that could be had gives the hinge h
abbrev HasHinge : Link → EdgeEndpoint → Hinge → Result Transform Failure → Type 0
HasHinge l end h x = (t : Transform) → x ≡ Ok t → hinge_of l end (wide t).q ≡ h

module _ (l : Link) (end : EdgeEndpoint) where
  -- what is known of a side, if its probe could be had: it has the hinge of the probe's quaternion, and the probe's translation
  abbrev FitsProbe : Result Transform Failure → Hinge → Vec3 → Type 0
  FitsProbe x h v = (t : Transform) → x ≡ Ok t → (h ≡ hinge_of l end (wide t).q) × (v ≡ (wide t).t)

  residual_side : {h : Hinge} {v : Vec3} (t : Transform) → FitsProbe (Ok t) h v → residual_at l end h v ≡ moved_in l end (Ok t)
  unfolding moved_in converting
  residual_side t s = ap₂ (residual_at l end) (s t refl).0 (s t refl).1 ∙ moved_residual_lem l end t

  -- a probe behind that can't be had is found out after the residual ahead
  late : (r : Result Twist Failure) (why : Failure)
      → with_six r (λ p. Err why) Err ≡ with_six r (λ p. with_six (moved_in l end (Err why)) (λ q. derivative p q) Err) Err
  unfolding with_six moved_in converting
  late (Ok p) why = refl
  late (Err other) why = refl

  gone : (why : Failure) (next : Twist → Result Twist Failure) → Err why ≡ with_six (moved_in l end (Err why)) next Err
  unfolding with_six moved_in converting
  gone why next = refl

  asked : (x y : Result Transform Failure) {h k : Hinge} {u v : Vec3} → FitsProbe x h u → FitsProbe y k v
      → column_by x (residual_at l end h u) y (residual_at l end k v) ≡ column_in l end x y
  unfolding column_by column_in converting
  asked (Err why) y s s' = gone why (λ p. with_six (moved_in l end y) (λ q. derivative p q) Err)
  asked (Ok t) (Err why) s s' = rw (residual_side t s) (late (moved_in l end (Ok t)) why)
  asked (Ok t) (Ok t') s s' = rw (residual_side t s, residual_side t' s')

  -- a side, from the cell of its probe
  side_of : {shift : Hinge} (c : ℕ) (a : Edge) → (c < 3 → HasHinge l end shift (stowed_from a))
      → FitsProbe (stowed_from a) (hinge_along l end shift c (wide a.measured).q) (wide a.measured).t
  unfolding hinge_along if_then
  side_of {shift} c a s t q = (go (ltb c 3) (ltb-true c 3), ap (λ (t : Transform). (wide t).t) (stowed_is a t q))
    where
      go : (b : Bool) → (b ≡ true → c < 3) → if_then b shift (hinge_of l end (wide a.measured).q) ≡ hinge_of l end (wide t).q
      go true r = sym (s (r refl) t q)
      go false r = ap (λ (t : Transform). hinge_of l end (wide t).q) (stowed_is a t q)

  column_same : {shift : Hinge} (c : ℕ) (a b : Edge) → (c < 3 → HasHinge l end shift (stowed_from a)) → (c < 3 → HasHinge l end shift (stowed_from b))
      → column_shared l end shift c a b ≡ column_in l end (stowed_from a) (stowed_from b)
  unfolding column_shared residuals_at hinges_along
  column_same c a b s s' = asked (stowed_from a) (stowed_from b) (side_of c a s) (side_of c b s')

  -- all probes along the first three axes have what the first one's quaternion gives
  shift_shared : {probe : ℕ → Bool → Result Transform Failure} {first : Transform} → SharesTurn probe → probe 0 true ≡ Ok first → (c : ℕ) (ahead : Bool)
      → c < 3 → HasHinge l end (hinge_of l end (wide first).q) (probe c ahead)
  unfolding wide
  shift_shared s e c ahead q t h = rw (s c ahead t _ q e h)

  -- where the first probe can't be had, nothing is filled in
  no_first : (behind : Result Transform Failure) {ahead : Result Transform Failure} {why : Failure} → ahead ≡ Err why → column_in l end ahead behind ≡ Err why
  unfolding column_in moved_in converting with_six
  no_first behind e = rw e

  none_filled : (dof : ℕ) (probe : ℕ → Bool → Result Transform Failure) {why : Failure} → 0 < dof → probe 0 true ≡ Err why
      → (Err why, zeros) ≡ jacobian_in dof l end probe
  unfolding jacobian_in column_step_in with_six
  none_filled dof probe d e = each_early _ _ _ _ (each_none _ _) (rw (no_first (probe 0 false) e)) d

  -- the cells of an end, whose first probe has quaternion t .q
  module _ (dof : ℕ) (cell : ℕ → Bool → Edge) (s : SharesTurn (λ c ahead. stowed_from (cell c ahead))) where
    one_hinge : (t : Transform) → stowed_from (cell 0 true) ≡ Ok t
        → jacobian_by dof l end (hinge_of l end (wide t).q) cell ≡ jacobian_in dof l end (λ c ahead. stowed_from (cell c ahead))
    unfolding jacobian_by jacobian_in column_step_shared column_step_in
    one_hinge t e =
        ap well
        (each_ext (column_step_shared l end (hinge_of l end (wide t).q) cell) (column_step_in l end (λ c ahead. stowed_from (cell c ahead))) dof zeros
        (λ c _ j. rw (column_same c (cell c true) (cell c false) (shift_shared s e c true) (shift_shared s e c false))))

    shared_in : 0 < dof → jacobian_shared dof l end (stowed_from (cell 0 true)) cell ≡ jacobian_in dof l end (λ c ahead. stowed_from (cell c ahead))
    unfolding converting
    shared_in d = go (stowed_from (cell 0 true)) refl
      where
        go : (x : Result Transform Failure) → stowed_from (cell 0 true) ≡ x → jacobian_shared dof l end x cell ≡ jacobian_in dof l end (λ c ahead. stowed_from (cell c ahead))
        go (Ok t) e = one_hinge t e
        go (Err why) e = none_filled dof (λ c ahead. stowed_from (cell c ahead)) d e

some_column : (m : Manifold) → 0 < dof_of m
some_column Se3 = omega arith
some_column (Gravity g) = omega arith

pub shared_at : (known : List Float) (x : ℕ) (m : Manifold) (l : Link) (end : EdgeEndpoint)
    → length known ≡ 26624 → x < 256 → SharesTurn (stowed_probes known x)
    → jacobian_at known x (dof_of m) l end ≡ jacobian_in (dof_of m) l end (stowed_probes known x)
unfolding jacobian_at first_probe if_then
shared_at known x m l end n b s =
    rw (le-leb 26624 (length known) (omega arith), lt-ltb x 256 b) (shared_in l end (dof_of m) (cells_of known x) s (some_column m))
