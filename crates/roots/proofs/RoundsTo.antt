-- Why `rooted` may be believed: of a number above zero it is the value of the format that is nearest to the square root, a tie to the even one, and an infinity
-- where IEEE 754 has one. The other cases are said one by one, and no constant meets the law. Assumes nothing.
use Rattle.std.proofs.Common.{◌≡◌, ℕ, suc, ◌+◌, ◌-◌, ◌*◌, ◌/◌, ◌^◌, ◌<◌, ◌≤◌, Bool, true, false, ℤ, pos, sym, refl, ap, ◌∙◌, subst, le_trans, le_of_eq, lt_of_lt_of_le, le_of_suc-le-suc, lt_of_le_of_lt, zero-lt-suc, mul_assoc, mul_comm, div-lt_iff_lt-mul, lt_of_mul-lt-mul_right, mul-pos, one-mul, pow-suc, le-div_iff_mul-le, arith, pow_pos, pow_mono, pow-add}
use Prim.Native.Nat.{compare, Ordering}
use native.Mathlib.Nat.{pow-zero}
use lib.Ieee.{Float, nan, inf, fin, Format, binary64, prec, low, up, down, size, hid}
use lib.Ieee.Digits.{size-lt, size_reaches}
use lib.Ieee.Fits.{two, two-le_pos, down_pos}
use Rattle.roots.specs.Roots.{whole_root, root, rooted}
use Rattle.numbers.specs.Rounds.{root_of, RoundsTo}
use Rattle.numbers.proofs.Word.{Cmp, cmp}
use Rattle.numbers.proofs.Rounds.{rounds_by_whole, rounds_to_one}
use Rattle.roots.proofs.Rooting.{square_lt, square_pow, whole_root_is, root_is}

pub second_power : (a : ℕ) → a ^ 2 ≡ a * a
second_power a = pow-suc a 1 ∙ ap (λ (z : ℕ). z * a) (pow-suc a 0 ∙ ap (λ (z : ℕ). z * a) (pow-zero a) ∙ one-mul a)

-- ---- how many digits of the root are dropped: the whole part that is left has no more than prec, and where any are dropped no fewer

enough : (z p : ℕ) → z ≤ 2 * p + 2 * ((z + 1) / 2 - p)
enough z p = omega arith

all_in_use : (z p : ℕ) → 0 < p → 0 < (z + 1) / 2 - p → 2 * (p - 1) + 2 * ((z + 1) / 2 - p) < z
all_in_use z p P h = omega arith

module _ (f : Format) (n d k : ℕ) (D : 0 < d) (is : (size (n / d) + 1) / 2 - prec f ≡ k) where
  abbrev unit : ℕ
  unit = d * 2 ^ (2 * k)

  unit_pos : 0 < unit
  unit_pos = mul-pos D (pow_pos (2 * k))

  abbrev whole : ℕ
  whole = whole_root (prec f) (n / unit)

  apart : (p : ℕ) → 2 ^ (p + 2 * k) * d ≡ 2 ^ p * unit
  apart p = ap (λ (x : ℕ). x * d) (pow-add 2 p (2 * k)) ∙ mul_assoc (2 ^ p) (2 ^ (2 * k)) d ∙ ap (λ (x : ℕ). 2 ^ p * x) (mul_comm (2 ^ (2 * k)) d)

  short : n / unit < 2 ^ (2 * prec f)
  short =
      let a : size (n / d) ≤ 2 * prec f + 2 * k = subst (λ (j : ℕ). size (n / d) ≤ 2 * prec f + 2 * j) is (enough (size (n / d)) (prec f)) in
      (div-lt_iff_lt-mul unit_pos).1
      (lt_of_lt_of_le ((div-lt_iff_lt-mul D).0 (lt_of_lt_of_le (size-lt (n / d)) (pow_mono a))) (le_of_eq (apart (2 * prec f))))

  long : 0 < k → 2 ^ (2 * (prec f - 1)) * unit ≤ n
  long g =
      let P : 0 < prec f = two-le_pos (prec f) (two f) in
      let a : 2 * (prec f - 1) + 2 * k < size (n / d) =
      subst (λ (j : ℕ). 0 < j → 2 * (prec f - 1) + 2 * j < size (n / d)) is (all_in_use (size (n / d)) (prec f) P) g in
      le_trans (le_of_eq (sym (apart (2 * (prec f - 1))))) ((le-div_iff_mul-le D).0 (size_reaches (n / d) (2 * (prec f - 1) + 2 * k) a))

  low_square : whole * whole * unit ≤ n
  low_square = (le-div_iff_mul-le unit_pos).0 (whole_root_is (prec f) (n / unit) short).0

  high_square : n < suc whole * suc whole * unit
  high_square = (div-lt_iff_lt-mul unit_pos).0 (whole_root_is (prec f) (n / unit) short).1

  few : whole < 2 ^ prec f
  few = square_lt whole (2 ^ prec f) (lt_of_lt_of_le (lt_of_le_of_lt (whole_root_is (prec f) (n / unit) short).0 short) (le_of_eq (sym (square_pow (prec f)))))

  full : 0 < k → hid f ≤ whole
  full g =
      le_of_suc-le-suc (square_lt (hid f) (suc whole) (lt_of_mul-lt-mul_right unit
      (lt_of_le_of_lt (le_trans (le_of_eq (ap (λ (z : ℕ). z * unit) (square_pow (prec f - 1)))) (long g)) high_square)))

-- ---- from squares to the root

module _ (f : Format) (num d k : ℕ) where
  squared : num * (2 ^ low f) ^ 2 ≡ num * 2 ^ (2 * low f)
  squared = ap (λ (z : ℕ). num * z) (second_power (2 ^ low f) ∙ square_pow (low f))

  squared_half : num * (2 * 2 ^ low f) ^ 2 ≡ 4 * (num * 2 ^ (2 * low f))
  squared_half =
      ap (λ (z : ℕ). num * z) (second_power (2 * 2 ^ low f)) ∙ four num (2 ^ low f) ∙ ap (λ (z : ℕ). 4 * (num * z)) (square_pow (low f))
    where
      four : (n l : ℕ) → n * (2 * l * (2 * l)) ≡ 4 * (n * (l * l))
      four n l = omega arith

  in_units : (a : ℕ) → (a * 2 ^ k) ^ 2 * d ≡ a * a * (d * 2 ^ (2 * k))
  in_units a =
      ap (λ (z : ℕ). z * d) (second_power (a * 2 ^ k)) ∙ swap a (2 ^ k) d ∙ ap (λ (z : ℕ). a * a * (d * z)) (square_pow k)
    where
      swap : (a y d : ℕ) → a * y * (a * y) * d ≡ a * a * (d * (y * y))
      swap a y d = omega arith

  side : (o : Ordering) (q : ℕ) → Cmp o (4 * (num * 2 ^ (2 * low f))) ((2 * q + 1) * (2 * q + 1) * (d * 2 ^ (2 * k)))
      → Cmp o (num * (2 * 2 ^ low f) ^ 2) ((2 * q * 2 ^ k + 2 ^ k) ^ 2 * d)
  side o q h =
      subst (λ (z : ℕ). Cmp o z ((2 * q * 2 ^ k + 2 ^ k) ^ 2 * d)) (sym squared_half)
      (subst (Cmp o (4 * (num * 2 ^ (2 * low f)))) (sym (ap (λ (z : ℕ). z ^ 2 * d) (grouped q (2 ^ k)) ∙ in_units (2 * q + 1))) h)
    where
      grouped : (q y : ℕ) → 2 * q * y + y ≡ (2 * q + 1) * y
      grouped q y = omega arith

pub root_rounds : (f : Format) (num d : ℕ) → 0 < d → RoundsTo f false (root_of num d) (root f num d)
root_rounds f num d D =
    let n = num * 2 ^ (2 * low f) in
    let k = (size (n / d) + 1) / 2 - prec f in
    let u = d * 2 ^ (2 * k) in
    let q = whole_root (prec f) (n / u) in
    let o = compare (4 * n) ((2 * q + 1) * (2 * q + 1) * u) in
    subst (RoundsTo f false (root_of num d)) (sym (root_is f num d))
    (rounds_by_whole f false (root_of num d) q k o (zero-lt-suc 1) D (few f n d k D refl) (full f n d k D refl)
    (le_trans (le_of_eq (in_units f num d k q)) (le_trans (low_square f n d k D refl) (le_of_eq (sym (squared f num d k)))))
    (lt_of_le_of_lt (le_of_eq (squared f num d k)) (lt_of_lt_of_le (high_square f n d k D refl) (le_of_eq (sym (in_units f num d k (suc q))))))
    (side f num d k o q (cmp (4 * n) ((2 * q + 1) * (2 * q + 1) * u))))

-- ---- the laws

pub root_is_nearest : (f : Format) (m : ℕ) (e : ℤ) → RoundsTo f false (root_of (suc m * up e) (down e)) (rooted f (fin false (suc m) e))
unfolding rooted
root_is_nearest f m e = root_rounds f (suc m * up e) (down e) (down_pos e)

pub root_nan : (f : Format) → rooted f nan ≡ nan
unfolding rooted
root_nan f = refl

pub root_infinite : (f : Format) → rooted f (inf false) ≡ inf false
unfolding rooted
root_infinite f = refl

pub root_below_infinite : (f : Format) → rooted f (inf true) ≡ nan
unfolding rooted
root_below_infinite f = refl

pub root_zero : (f : Format) (s : Bool) (e : ℤ) → rooted f (fin s 0 e) ≡ fin s 0 e
unfolding rooted
root_zero f s e = refl

pub root_below : (f : Format) (m : ℕ) (e : ℤ) → rooted f (fin true (suc m) e) ≡ nan
unfolding rooted
root_below f m e = refl

-- ---- a constant does not meet the law: it would be the root of 1 and of 4

root_of_one : rooted binary64 (fin false 1 (pos 0)) ≡ fin false 1 (pos 0)
unfolding rooted
root_of_one = refl

root_of_four : rooted binary64 (fin false 1 (pos 2)) ≡ fin false 1 (pos 1)
unfolding rooted
root_of_four = refl

pub no_constant_root : (v : Float) → ((m : ℕ) → RoundsTo binary64 false (root_of (suc m) 1) v) → ⊥
no_constant_root v h =
    let P : 0 < 2 = zero-lt-suc 1 in
    let D : 0 < 1 = zero-lt-suc 0 in
    let a : v ≡ rooted binary64 (fin false 1 (pos 0)) = rounds_to_one binary64 false (root_of 1 1) v _ P D (h 0) (root_is_nearest binary64 0 (pos 0)) in
    let b : v ≡ rooted binary64 (fin false 1 (pos 2)) = rounds_to_one binary64 false (root_of 4 1) v _ P D (h 3) (root_is_nearest binary64 0 (pos 2)) in
    let e : fin false 1 (pos 0) ≡ fin false 1 (pos 1) = sym root_of_one ∙ sym a ∙ b ∙ root_of_four in
    let z : ◌≡◌ {A = ℕ} 0 1 = cc in
    omega arith
