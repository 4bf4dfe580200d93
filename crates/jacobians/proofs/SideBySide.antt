-- The derivatives along an axis, as the code works them out side by side. Assumes nothing.
use Prim.Native.Nat.{ℕ, ◌<◌, ◌≤◌}
use Rattle.std.specs.Prelude.{Err, Ok, Result}
use mathlib.Core.Path.{◌≡◌, ◌∙◌}
use borrow.Author.Tests.{lt-ltb, le-ltb}
use Rattle.numbers.specs.Notation.{if_then}
use Rattle.numbers.specs.declared.Failure.{Failure}
use Rattle.rotations.specs.Rotation.{wide}
use Rattle.rotations.specs.Formats.{Quat, Rigid, Transform}
use Rattle.exp_log.specs.Formats.{Twist}
use Rattle.pose_conversion.specs.Conversions.{converting}
use Rattle.graph.specs.declared.Edge.{Edge}
use Rattle.costs.specs.Stowed.{stowed_from}
use Rattle.residual.specs.EdgeParts.{hinges_of, residuals_at}
use Rattle.residual.specs.declared.EdgeEndpoint.{EdgeEndpoint}
use Rattle.residual.specs.declared.Hinge.{Hinge}
use Rattle.exp_log.specs.declared.Both.{Both}
use Rattle.residual.specs.declared.Link.{Link}
use Rattle.jacobians.specs.Jacobians.{with_six, derivative}
use Rattle.jacobians.specs.Cells.{hinge_along, hinges_along, column_by, column_shared}

-- ---- the probes and the residuals, asked in turn

module _ (x : Result Transform Failure) (p : Result Twist Failure) (y : Result Transform Failure) (q : Result Twist Failure) where
  pub by_no_ahead : {why : Failure} → x ≡ Err why → Err why ≡ column_by x p y q
  unfolding column_by converting
  by_no_ahead e = rw e

  module _ {t : Transform} (e : x ≡ Ok t) where
    pub by_lost_ahead : {why : Failure} → p ≡ Err why → Err why ≡ column_by x p y q
    unfolding column_by converting with_six
    by_lost_ahead f = rw (e, f)

    module _ {d : Twist} (f : p ≡ Ok d) where
      pub by_no_behind : {why : Failure} → y ≡ Err why → Err why ≡ column_by x p y q
      unfolding column_by converting with_six
      by_no_behind g = rw (e, f, g)

      module _ {u : Transform} (g : y ≡ Ok u) where
        pub by_lost_behind : {why : Failure} → q ≡ Err why → Err why ≡ column_by x p y q
        unfolding column_by converting with_six
        by_lost_behind h = rw (e, f, g, h)

        pub by_had : {d' : Twist} {r : Result Twist Failure} → q ≡ Ok d' → r ≡ derivative d d' → r ≡ column_by x p y q
        unfolding column_by converting with_six
        by_had h k = rw (e, f, g, h) k

pub along_shift : (l : Link) (end : EdgeEndpoint) (shift : Hinge) (c : ℕ) (p q : Quat) → c < 3
    → record { ahead = shift; behind = shift } ≡ hinges_along l end shift c p q
unfolding hinges_along hinge_along if_then
along_shift l end shift c p q e = rw (lt-ltb c 3 e)

pub along_turn : (l : Link) (end : EdgeEndpoint) (shift : Hinge) (c : ℕ) (p q : Quat) {h : Both Hinge} → 3 ≤ c → h ≡ hinges_of l end p q
    → h ≡ hinges_along l end shift c p q
unfolding hinges_along hinge_along hinges_of if_then
along_turn l end shift c p q e f = f ∙ rw (le-ltb c 3 e)

-- ---- from the two cells
module _ (l : Link) (end : EdgeEndpoint) (shift : Hinge) (c : ℕ) where
  pub column_shared_lem : {a b a' b' : Edge} {u v : Rigid} {h : Both Hinge} {both : Both (Result Twist Failure)} {r : Result Twist Failure} → a ≡ a' → b ≡ b'
      → u ≡ wide a.measured → v ≡ wide b.measured → h ≡ hinges_along l end shift c u.q v.q → both ≡ residuals_at l end h u.t v.t
      → r ≡ column_by (stowed_from a) both.ahead (stowed_from b) both.behind → r ≡ column_shared l end shift c a' b'
  unfolding column_shared
  column_shared_lem p q e f g k m = rw (← p, ← q, ← e, ← f, ← g, ← k) m
