-- The laws of rounding: there is only one nearest value; the whole part of an exact number in the right units, with what is known of the half above it, makes
-- the number rounded; and `round` of the library is the fraction rounded. Assumes nothing.
use Rattle.std.proofs.Common.{◌≡◌, ℕ, suc, ◌+◌, ◌-◌, ◌*◌, ◌/◌, ◌%◌, ◌^◌, ◌<◌, ◌≤◌, Bool, true, false, not, T, ltb, sym, ap, ◌∙◌, subst, inl, inr, le_trans, lt_trans, le_of_eq, le_of_lt, lt_irrefl, mod-lt, zero-lt-suc, add_comm, eq-or-lt_of_le, mul-pos, one-mul, pow-suc, div-add-mod', le-div_iff_mul-le, arith, ltb→lt, nltb→le, pow_pos, pow-add}
use Prim.Native.Nat.{compare, Ordering}
use native.Mathlib.Nat.{div-div-eq-div-mul, pow-zero}
use lib.Ieee.{Float, Format, prec, low, size, nearest, units, round, hid, to_bits}
use lib.Ieee.Digits.{size_reaches}
use lib.Ieee.Fits.{two, two-le_pos, kept-lt, round_is}
use lib.Ieee.Exact.{HasValue, units_val}
use Rattle.numbers.specs.Rounds.{Exact, fraction, Below, NoLess, ValueOf, Smaller, NearestValue, overflow_from, RoundsTo}
use Rattle.numbers.proofs.Word.{Cmp, cmp}
use Rattle.numbers.proofs.Write.{same_value}
use Rattle.numbers.proofs.Exacts.{in_order}
use Rattle.numbers.proofs.Counts.{Counted, count, counted, counted_below, value_fits, value_of, units_fit, no_value_between, bits_parity}
use Rattle.numbers.proofs.Nearby.{TwiceNoLess, TwiceNoMore, to_most, to_least, of_most, of_least, as_smaller, nearest_whole}
use Rattle.numbers.proofs.Overflows.{rounds}

-- ---- there is only one

not_itself : (v w : Float) → Smaller v w → w ≡ v → ⊥
not_itself v w l e = lt_irrefl _ (subst (λ (z : Float). Smaller v z) e l)

module _ (f : Format) (s : Bool) (x : Exact) (P : 0 < x.power) (D : 0 < x.denominator) where
  module _ (v w : Float) (N : NearestValue f s x v) (M : NearestValue f s x w) (c : Counted f s v) (d : Counted f s w) (l : count c < count d) where
    before : Smaller v w
    before = as_smaller f s x v w (count c) (count d) c.value d.value l

    in_middle : TwiceNoLess f x (count c + count d)
    in_middle =
        subst (TwiceNoLess f x) (add_comm (count d) (count c))
        (to_least f s x w v (count d) (count c) d.value c.value (M.above_smaller v N.value before))

    lower_even : to_bits f v % 2 ≡ 0
    lower_even =
        N.even_at_tie w M.value (not_itself v w before) (N.below_larger w M.value before)
        (of_least f s x v w (count c) (count d) c.value d.value in_middle)

    upper_even : to_bits f w % 2 ≡ 0
    upper_even =
        M.even_at_tie v N.value (λ e. not_itself v w before (sym e))
        (of_most f s x w v (count d) (count c) d.value c.value
        (subst (TwiceNoMore f x) (add_comm (count c) (count d))
        (to_most f s x v w (count c) (count d) c.value d.value (N.below_larger w M.value before))))
        (M.above_smaller v N.value before)

    next_full : 0 < c.dropped → hid f ≤ suc c.digits
    next_full g = let h : hid f ≤ c.digits = c.full g in omega arith

    neighbours : suc c.digits * 2 ^ c.dropped ≡ count d → ⊥
    neighbours e =
        let a : to_bits f v % 2 ≡ c.digits % 2 = bits_parity f s v c.digits c.dropped (le_of_lt c.small) c.full c.value in
        let b : to_bits f w % 2 ≡ suc c.digits % 2 =
        bits_parity f s w (suc c.digits) c.dropped c.small next_full (subst (λ (n : ℕ). HasValue w s n (2 ^ low f)) (sym e) d.value) in
        odds c.digits (sym a ∙ lower_even) (sym b ∙ upper_even)
      where
        odds : (q : ℕ) → q % 2 ≡ 0 → suc q % 2 ≡ 0 → ⊥
        odds q a b = omega arith

    far : suc c.digits * 2 ^ c.dropped < count d → ⊥
    far g =
        let y = units f s (suc c.digits) c.dropped in
        let n = suc c.digits * 2 ^ c.dropped in
        let Y : HasValue y s n (2 ^ low f) = units_val f s (suc c.digits) c.dropped (lt_trans g (counted_below d)) in
        let u : ValueOf f s y = value_of f s y n (2 ^ low f) (units_fit f s (suc c.digits) c.dropped c.small next_full) Y in
        let step : count c < n = one_more_lem c.digits (2 ^ c.dropped) (pow_pos c.dropped) in
        let m : TwiceNoMore f x (count c + n) =
        to_most f s x v y (count c) n c.value Y (N.below_larger y u (as_smaller f s x v y (count c) n c.value Y step)) in
        past (count c) (count d) n (in_order x P D _ (2 * 2 ^ low f) _ in_middle m) g
      where
        one_more_lem : (q y : ℕ) → 0 < y → q * y < suc q * y
        one_more_lem q y p = omega arith

        past : (a b n : ℕ) → a + b ≤ a + n → n < b → ⊥
        past a b n h l = omega arith

    not_two : ⊥
    not_two =
        let P : 0 < prec f = two-le_pos (prec f) (two f) in
        elim (eq-or-lt_of_le (no_value_between (prec f) c.digits c.dropped d.digits d.dropped P c.full d.small l)) [
          | inl e ↦ neighbours e
          | inr g ↦ far g
        ]

pub nearest_is_one : (f : Format) (s : Bool) (x : Exact) (v w : Float) → 0 < x.power → 0 < x.denominator
    → NearestValue f s x v → NearestValue f s x w → v ≡ w
nearest_is_one f s x v w P D N M = go (counted f s v N.value) (counted f s w M.value)
  where
    go : Counted f s v → Counted f s w → v ≡ w
    go c d = by (compare (count c) (count d)) (cmp (count c) (count d))
      where
        by : (o : Ordering) → Cmp o (count c) (count d) → v ≡ w
        by Ordering.lt l = absurd (not_two f s x P D v w N M c d l)
        by Ordering.eq e =
            same_value f v w s (count c) (value_fits f s v N.value) (value_fits f s w M.value) c.value
            (subst (λ (n : ℕ). HasValue w s n (2 ^ low f)) (sym e) d.value)
        by Ordering.gt l = absurd (not_two f s x P D w v M N d c l)

-- so a number is rounded in one way, an infinity among the answers
pub rounds_to_one : (f : Format) (s : Bool) (x : Exact) (v w : Float) → 0 < x.power → 0 < x.denominator → RoundsTo f s x v → RoundsTo f s x w → v ≡ w
rounds_to_one f s x v w P D N M =
    let a = x.numerator * 1 ^ x.power in
    let b = overflow_from f ^ x.power * x.denominator in
    go (ltb a b) (ltb→lt a b) (nltb→le a b)
  where
    go : (t : Bool) → (T t → Below x (overflow_from f) 1) → (T (not t) → NoLess x (overflow_from f) 1) → v ≡ w
    go true l g = nearest_is_one f s x v w P D (N.finite (l tt)) (M.finite (l tt))
    go false l g = N.infinite (g tt) ∙ sym (M.infinite (g tt))

-- ---- from the whole part q of x in units of 2 ^ k smallest values: o says on which side of q + 1 / 2 x lies

pub rounds_by_whole : (f : Format) (s : Bool) (x : Exact) (q k : ℕ) (o : Ordering) → 0 < x.power → 0 < x.denominator
    → q < 2 ^ prec f → (0 < k → hid f ≤ q) → NoLess x (q * 2 ^ k) (2 ^ low f) → Below x (suc q * 2 ^ k) (2 ^ low f)
    → Cmp o (x.numerator * (2 * 2 ^ low f) ^ x.power) ((2 * q * 2 ^ k + 2 ^ k) ^ x.power * x.denominator) → RoundsTo f s x (units f s (nearest q o) k)
rounds_by_whole f s x q k o P D few full whole rest c = rounds f x P D (nearest q o) k (nearest_whole f x P D q k few full whole rest o c) s

-- ---- a fraction rounded by the library

one_power : (a : ℕ) → a ^ 1 ≡ a
one_power a = pow-suc a 0 ∙ ap (λ (z : ℕ). z * a) (pow-zero a) ∙ one-mul a

shifted : (o : Ordering) (a b m n c : ℕ) → m ≡ a + c → n ≡ b + c → Cmp o a b → Cmp o m n
shifted Ordering.lt a b m n c d e h = omega arith
shifted Ordering.eq a b m n c d e h = omega arith
shifted Ordering.gt a b m n c d e h = omega arith

all_in_use : (z p : ℕ) → 0 < p → 0 < z - p → p - 1 + (z - p) < z
all_in_use z p P h = omega arith

module _ (f : Format) (n d k : ℕ) (D : 0 < d) where
  abbrev unit : ℕ
  unit = d * 2 ^ k

  abbrev whole : ℕ
  whole = n * 2 ^ low f / unit

  parts : whole * unit + n * 2 ^ low f % unit ≡ n * 2 ^ low f
  parts = div-add-mod' (n * 2 ^ low f) unit

  reaches : NoLess (fraction n d) (whole * 2 ^ k) (2 ^ low f)
  reaches = simp one_power (swap whole (2 ^ k) d (n * 2 ^ low f) (n * 2 ^ low f % unit) parts)
    where
      swap : (q y d n t : ℕ) → q * (d * y) + t ≡ n → q * y * d ≤ n
      swap q y d n t e = omega arith

  is_below : Below (fraction n d) (suc whole * 2 ^ k) (2 ^ low f)
  is_below = simp one_power (swap whole (2 ^ k) d (n * 2 ^ low f) (n * 2 ^ low f % unit) parts (mod-lt (n * 2 ^ low f) (mul-pos D (pow_pos k))))
    where
      swap : (q y d n t : ℕ) → q * (d * y) + t ≡ n → t < d * y → n < suc q * y * d
      swap q y d n t e l = omega arith

  side : (o : Ordering) → Cmp o (n * 2 ^ low f % unit * 2) unit → Cmp o (n * (2 * 2 ^ low f) ^ 1) ((2 * whole * 2 ^ k + 2 ^ k) ^ 1 * d)
  side o h =
      shifted o (n * 2 ^ low f % unit * 2) unit _ _ (2 * (whole * unit))
      (ap (λ (z : ℕ). n * z) (one_power (2 * 2 ^ low f)) ∙ twofold n (2 ^ low f) (whole * unit) (n * 2 ^ low f % unit) parts)
      (ap (λ (z : ℕ). z * d) (one_power (2 * whole * 2 ^ k + 2 ^ k)) ∙ halved whole (2 ^ k) d) h
    where
      twofold : (n l a t : ℕ) → a + t ≡ n * l → n * (2 * l) ≡ t * 2 + 2 * a
      twofold n l a t e = omega arith

      halved : (q y d : ℕ) → (2 * q * y + y) * d ≡ d * y + 2 * (q * (d * y))
      halved q y d = omega arith

pub round_is_nearest : (f : Format) (s : Bool) (n d : ℕ) → 0 < d → RoundsTo f s (fraction n d) (round f s n d)
round_is_nearest f s n d D =
    let m = n * 2 ^ low f in
    let k = size (m / d) - prec f in
    let u = d * 2 ^ k in
    let w : m / d / 2 ^ k ≡ m / u = div-div-eq-div-mul m d (2 ^ k) in
    let P : 0 < prec f = two-le_pos (prec f) (two f) in
    let deep : 0 < k → 2 ^ (prec f - 1 + k) ≤ m / d = λ g. size_reaches (m / d) (prec f - 1 + k) (all_in_use (size (m / d)) (prec f) P g) in
    subst (RoundsTo f s (fraction n d)) (sym (round_is f s n d))
    (rounds_by_whole f s (fraction n d) (m / u) k (compare (m % u * 2) u) (zero-lt-suc 0) D
    (subst (λ (z : ℕ). z < 2 ^ prec f) w (kept-lt (prec f) (m / d)))
    (λ g. subst (λ (z : ℕ). hid f ≤ z) w ((le-div_iff_mul-le (pow_pos k)).1 (le_trans (le_of_eq (sym (pow-add 2 (prec f - 1) k))) (deep g))))
    (reaches f n d k D) (is_below f n d k D) (side f n d k D (compare (m % u * 2) u) (cmp (m % u * 2) u)))
