-- A residual's six numbers are finite f32s; so half of the sum of the squares of all of them is finite, of up to 2 ^ 32 edges, and so is the length of one.
-- Assumes nothing.
use Rattle.numbers.specs.declared.Failure.{Failure}
use Rattle.std.specs.Prelude.{Err, Ok, Result}
use mathlib.Core.Path.{◌≡◌, refl, subst}
use mathlib.Core.Bool.{Bool, true, false, ◌&&◌}
use Prim.Native.Nat.{ℕ, zero, suc, ◌+◌, ◌*◌, ◌^◌, ◌≤◌, ◌<◌}
use native.Mathlib.Nat.{le_trans, le_of_eq, le_of_lt, le-suc, le-add_right, lt_of_le_of_lt, mul-le-mul_right}
use native.Mathlib.Omega.{arith}
use lib.Dec.{T, lit<, lit≤}
use lib.ListN.{get_or}
use lib.Ieee.{Float, nan, binary32, binary64, fits}
use lib.Ieee.Fits.{mul-fits}
use lib.Ieee.Scale.{finite}
use Rattle.numbers.specs.Notation.{◌⊗◌, if_then}
use Rattle.roots.specs.Roots.{root64}
use Rattle.numbers.specs.declared.Failure.TheVariants.{Numerical}
use Rattle.numbers.proofs.Tests.{and_first, and_second}
use Rattle.roots.proofs.Bounded.{AtMost, at_most_more, add_at_most, zero_at_most, sum_at_most, square, half_finite, norm_finite}
use Rattle.exp_log.specs.ExpLog.{log_wide}
use Rattle.rotations.specs.declared.Pose.{Pose}
use Rattle.rotations.specs.Formats.{Transform}
use Rattle.exp_log.specs.Formats.{Twist, WideTwist}
use Rattle.pose_conversion.specs.Conversions.{finite3, valid_transform, checked_transform, converting}
use Rattle.graph.specs.Graph.{Graph}
use Rattle.graph.specs.declared.Edge.{Edge}
use Rattle.residual.specs.Residuals.{error_of, weighted_vec, weighted, finite_twist, six_if_finite, residual_of, six_of}
use Rattle.printable.specs.Measures.{edge_residual, squares_of, with_squares, squares_up_to, pose_graph_cost}
use Rattle.printable.proofs.Measuring.{squares_none}

-- ---- the six numbers of a residual

pub record SixFinite (d : Twist) : Type 0 where
  pub all_finite : (i : ℕ) → i < 6 → finite (get_or (six_of d) i nan) ≡ true
  pub all_fit : (i : ℕ) → i < 6 → T (fits binary32 (get_or (six_of d) i nan))

-- where there is a residual
abbrev pub Sound : Result Twist Failure → Type 0
Sound (Ok d) = SixFinite d
Sound (Err why) = Unit {0}

three : (x y z : Float) → finite3 x y z ≡ true → (finite x ≡ true) × (finite y ≡ true) × (finite z ≡ true)
three x y z h =
    let yz = and_second (finite x) (finite y && finite z) h in
    (and_first (finite x) (finite y && finite z) h, and_first (finite y) (finite z) yz, and_second (finite y) (finite z) yz)

six_finite : (d : Twist) → finite_twist d ≡ true → (i : ℕ) → i < 6 → finite (get_or (six_of d) i nan) ≡ true
unfolding finite_twist
six_finite d h = at
  where
    t : (finite (d.t).x ≡ true) × (finite (d.t).y ≡ true) × (finite (d.t).z ≡ true)
    t = three (d.t).x (d.t).y (d.t).z (and_first (finite3 (d.t).x (d.t).y (d.t).z) (finite3 (d.r).x (d.r).y (d.r).z) h)

    r : (finite (d.r).x ≡ true) × (finite (d.r).y ≡ true) × (finite (d.r).z ≡ true)
    r = three (d.r).x (d.r).y (d.r).z (and_second (finite3 (d.t).x (d.t).y (d.t).z) (finite3 (d.r).x (d.r).y (d.r).z) h)

    at : (i : ℕ) → i < 6 → finite (get_or (six_of d) i nan) ≡ true
    at zero l = t.0
    at (suc zero) l = t.1
    at (suc (suc zero)) l = t.2
    at (suc (suc (suc zero))) l = r.0
    at (suc (suc (suc (suc zero)))) l = r.1
    at (suc (suc (suc (suc (suc zero))))) l = r.2
    at (suc (suc (suc (suc (suc (suc i)))))) l = absurd (omega arith)

six_fits : (w : Float) (d : WideTwist) (i : ℕ) → i < 6 → T (fits binary32 (get_or (six_of (weighted w d)) i nan))
unfolding weighted weighted_vec
six_fits w d zero l = mul-fits binary32 _ _
six_fits w d (suc zero) l = mul-fits binary32 _ _
six_fits w d (suc (suc zero)) l = mul-fits binary32 _ _
six_fits w d (suc (suc (suc zero))) l = mul-fits binary32 _ _
six_fits w d (suc (suc (suc (suc zero)))) l = mul-fits binary32 _ _
six_fits w d (suc (suc (suc (suc (suc zero))))) l = mul-fits binary32 _ _
six_fits w d (suc (suc (suc (suc (suc (suc i)))))) l = absurd (omega arith)

six_sound : (w : Float) (d : WideTwist) → Sound (six_if_finite (weighted w d))
unfolding six_if_finite if_then
six_sound w d = go (finite_twist (weighted w d)) refl
  where
    go : (b : Bool) → finite_twist (weighted w d) ≡ b → Sound (if_then b (Ok (weighted w d)) (Err Numerical))
    go true e = record { all_finite = six_finite (weighted w d) e; all_fit = six_fits w d }
    go false e = tt

converted_sound : (x : Result Transform Failure) (next : Transform → Result Twist Failure) → ((a : Transform) → Sound (next a)) → Sound (converting x next Err)
unfolding converting
converted_sound (Ok a) next h = h a
converted_sound (Err why) next h = tt

tested_sound : (t : Bool) (r : Result Twist Failure) → Sound r → Sound (if_then t r (Err Numerical))
unfolding if_then
tested_sound true r h = h
tested_sound false r h = tt

pub residual_sound : (a b : Pose) (e : Edge) → Sound (residual_of a b e)
unfolding residual_of
residual_sound a b e =
    tested_sound (finite e.weight) _
    (converted_sound (valid_transform e.measured) _
    (λ m. converted_sound (checked_transform b) _ (λ tb. converted_sound (checked_transform a) _ (λ ta. six_sound e.weight (log_wide (error_of ta tb m))))))

-- ---- its length

pub length_finite : (d : Twist) → SixFinite d → finite (root64 (squares_of d)) ≡ true
unfolding squares_of
length_finite d s = norm_finite (λ j. get_or (six_of d) j nan) 6 (lit≤ tt) s.all_finite s.all_fit

-- ---- the cost

squares_small : (d : Twist) → SixFinite d → AtMost (6 * 2 ^ 256) (squares_of d)
unfolding squares_of
squares_small d s =
    sum_at_most binary64 (λ j. get_or (six_of d) j nan ⊗ get_or (six_of d) j nan) 6 256 (lit< tt) (lit< tt)
    (λ i l. square (get_or (six_of d) i nan) (s.all_finite i l) (s.all_fit i l))

-- that many times 2 ^ 256 is below the largest f64
room : (q : ℕ) → q < 2 ^ 53 → q * 2 ^ 256 < 2 ^ 1024
room q h = lt_of_le_of_lt (mul-le-mul_right (2 ^ 256) (le_of_lt h)) (lit< tt)

six_more : (q u : ℕ) → q * u + 6 * u ≤ (q + 6) * u
six_more q u = omega arith

with_small : (r : Result Twist Failure) (q : ℕ) (s : Float) → Sound r → q + 6 < 2 ^ 53 → AtMost (q * 2 ^ 256) s → AtMost ((q + 6) * 2 ^ 256) (with_squares r s)
with_small (Ok d) q s f Q h =
    add_at_most binary64 (q * 2 ^ 256) (6 * 2 ^ 256) (q + 6) 256 s (squares_of d) Q (room (q + 6) Q) (six_more q (2 ^ 256)) h (squares_small d f)
with_small (Err why) q s f Q h = at_most_more ((q + 6) * 2 ^ 256) (mul-le-mul_right (2 ^ 256) (le-add_right q 6)) h

-- so many numbers
below_53 : (k : ℕ) → k ≤ 2 ^ 32 → k * 6 < 2 ^ 53
below_53 k h = omega arith

one_more_lem : (k : ℕ) → k * 6 + 6 ≡ suc k * 6
one_more_lem k = omega arith

module _ {P : Type 0} (g : Graph P Edge) (pose : ℕ → Pose) where
  sum_small : (k : ℕ) → k ≤ 2 ^ 32 → AtMost (k * 6 * 2 ^ 256) (squares_up_to g pose k)
  unfolding squares_up_to
  sum_small zero h = subst (AtMost (0 * 6 * 2 ^ 256)) (squares_none g pose) (zero_at_most binary64 (0 * 6 * 2 ^ 256))
  sum_small (suc k) h =
      subst (λ q. AtMost (q * 2 ^ 256) (with_squares (edge_residual g pose k) (squares_up_to g pose k))) (one_more_lem k)
      (with_small (edge_residual g pose k) (k * 6) (squares_up_to g pose k) (residual_sound (pose (g.a k)) (pose (g.b k)) (g.measured k))
      (lt_of_le_of_lt (le_of_eq (one_more_lem k)) (below_53 (suc k) h)) (sum_small k (le_trans (le-suc k) h)))

  pub cost_finite : g.edges ≤ 2 ^ 32 → finite (pose_graph_cost g pose) ≡ true
  unfolding pose_graph_cost
  cost_finite h =
      half_finite (g.edges * 6) 256 (squares_up_to g pose g.edges) (below_53 g.edges h) (room (g.edges * 6) (below_53 g.edges h))
      (sum_small g.edges h)
