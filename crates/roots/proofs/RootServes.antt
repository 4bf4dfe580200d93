-- The rounded root of a number that is above 0 and finite is above 0 and finite, at either format. Assumes nothing.
use Rattle.std.proofs.Common.{◌≡◌, ℕ, zero, suc, ◌+◌, ◌-◌, ◌*◌, ◌/◌, ◌%◌, ◌^◌, ◌<◌, ◌≤◌, true, false, ◌&&◌, T, eqb, ltb, leb, pos, sym, refl, ap, ◌∙◌, subst, le_trans, le_of_eq, lt_of_lt_of_le, lt_of_le_of_lt, mul-le-mul_right, zero-lt-suc, mul_assoc, mul_comm, div-lt_iff_lt-mul, mul-lt-mul_of_pos_right, mul-pos, one-mul, le-div_iff_mul-le, zero-mul, mul-one, mul_right_comm, arith, ltb→lt, leb→le, pow_pos, pow_mono, pow-add, lt-ltb}
use Prim.Native.Nat.{compare}
use lib.Pow.{pow-lt}
use lib.Ieee.{Float, nan, inf, fin, Format, prec, emax, low, up, down, size, nearest, units, round, lt, fits}
use lib.Ieee.Fits.{two, reach, up_pos, down_pos, nearest-le, and_l, and_r}
use lib.Ieee.Bits.{is_true}
use lib.Ieee.Digits.{size-lt, size-le, size_reaches}
use lib.Ieee.Exact.{units_val}
use lib.Ieee.Nearest.{nearest-ge}
use lib.Ieee.Positive.{positive, positive_of_value}
use lib.Ieee.Scale.{finite}
use Rattle.numbers.specs.Notation.{ratio, num}
use Rattle.roots.specs.Roots.{whole_root, root, rooted}
use Rattle.roots.proofs.Rooting.{square_lt, square_pow, whole_root_is}
use Rattle.numbers.proofs.Write.{size_gt}

-- how many digits are dropped, and the room that is left
drops : (z p : ℕ) → 0 < z → 2 ≤ p → 2 * ((z + 1) / 2 - p) < z
drops z p h P = omega arith

keeps : (z p e : ℕ) → 2 ≤ p → p ≤ suc e → z ≤ suc e + 2 * (e + p - 2) → p + ((z + 1) / 2 - p) < e + p - 2 + suc e
keeps z p e P R h = omega arith

spans : (z p : ℕ) → z ≤ 2 * p + 2 * ((z + 1) / 2 - p)
spans z p = omega arith

module _ (f : Format) (a c : ℕ) (A : 0 < a) (C : 0 < c) (deep : c ≤ 2 ^ low f) (under : a < 2 ^ suc (emax f) * c) where
  abbrev n : ℕ
  n = a * 2 ^ (2 * low f)

  abbrev z : ℕ
  z = size (n / c)

  abbrev k : ℕ
  k = (z + 1) / 2 - prec f

  abbrev u : ℕ
  u = c * 2 ^ (2 * k)

  u_pos : 0 < u
  u_pos = mul-pos C (pow_pos (2 * k))

  one : 1 ≤ n / c
  one =
      (le-div_iff_mul-le C).1
      (le_trans (le_of_eq (one-mul c)) (le_trans deep (le_trans (pow_mono {i = low f} {j = 2 * low f} (omega arith)) (le_trans (le_of_eq (sym (one-mul (2 ^ (2 * low f))))) (mul-le-mul_right (2 ^ (2 * low f)) A)))))

  some : u ≤ n
  some =
      le_trans (le_of_eq (mul_comm c (2 ^ (2 * k))))
      ((le-div_iff_mul-le C).0 (size_reaches (n / c) (2 * k) (drops z (prec f) (size_gt (n / c) 0 one) (two f))))

  z_le : z ≤ suc (emax f) + 2 * low f
  z_le =
      size-le (n / c) (suc (emax f) + 2 * low f)
      ((div-lt_iff_lt-mul C).1
      (subst (λ (x : ℕ). n < x) (mul_right_comm (2 ^ suc (emax f)) c (2 ^ (2 * low f)) ∙ ap (λ (x : ℕ). x * c) (sym (pow-add 2 (suc (emax f)) (2 * low f))))
      (mul-lt-mul_of_pos_right under (pow_pos (2 * low f)))))

  few : n / u < 2 ^ (2 * prec f)
  few =
      (div-lt_iff_lt-mul u_pos).1
      (lt_of_lt_of_le ((div-lt_iff_lt-mul C).0 (lt_of_lt_of_le (size-lt (n / c)) (pow_mono (spans z (prec f)))))
      (le_of_eq (ap (λ (x : ℕ). x * c) (pow-add 2 (2 * prec f) (2 * k)) ∙ mul_assoc (2 ^ (2 * prec f)) (2 ^ (2 * k)) c ∙ ap (λ (x : ℕ). 2 ^ (2 * prec f) * x) (mul_comm (2 ^ (2 * k)) c))))

  -- the whole part of the root, and what it is rounded to
  abbrev q : ℕ
  q = whole_root (prec f) (n / u)

  abbrev r : ℕ
  r = nearest q (compare (4 * n) ((2 * q + 1) * (2 * q + 1) * u))

  r_pos : 0 < r
  r_pos = lt_of_lt_of_le (first q (whole_root_is (prec f) (n / u) few).1) (nearest-ge q (compare (4 * n) ((2 * q + 1) * (2 * q + 1) * u)))
    where
      there : 1 ≤ n / u
      there = (le-div_iff_mul-le u_pos).1 (le_trans (le_of_eq (one-mul u)) some)

      first : (w : ℕ) → n / u < suc w * suc w → 0 < w
      first zero l = absurd (omega (arith, there))
      first (suc w) l = zero-lt-suc w

  r_le : r ≤ 2 ^ prec f
  r_le =
      le_trans (nearest-le q (compare (4 * n) ((2 * q + 1) * (2 * q + 1) * u)))
      (square_lt q (2 ^ prec f) (lt_of_le_of_lt (whole_root_is (prec f) (n / u) few).0 (lt_of_lt_of_le few (le_of_eq (sym (square_pow (prec f)))))))

  r_under : r * 2 ^ k < 2 ^ (low f + suc (emax f))
  r_under =
      lt_of_le_of_lt (mul-le-mul_right (2 ^ k) r_le)
      (lt_of_le_of_lt (le_of_eq (sym (pow-add 2 (prec f) k))) (pow-lt (keeps z (prec f) (emax f) (two f) (reach f) z_le)))

  root_positive : T (positive (root f a c))
  unfolding root
  root_positive = positive_of_value (units f false r k) (r * 2 ^ k) (2 ^ low f) (units_val f false r k r_under) (mul-pos r_pos (pow_pos k))

-- `positive` is the toolchain's word for above 0 and finite
pub rooted_positive : (f : Format) (x : Float) → T (fits f x) → T (positive x) → T (positive (rooted f x))
unfolding rooted fits
rooted_positive f nan h p = p
rooted_positive f (inf s) h p = absurd p
rooted_positive f (fin true m e) h p = absurd p
rooted_positive f (fin false zero e) h p = p
rooted_positive f (fin false (suc m) e) h p =
    let A = eqb (suc m % 2) 1 in
    let B = ltb (suc m) (2 ^ prec f) in
    let D = leb (down e) (2 ^ low f) in
    let E = ltb (suc m * up e) (2 ^ suc (emax f) * down e) in
    root_positive f (suc m * up e) (down e) (mul-pos (zero-lt-suc m) (up_pos e)) (down_pos e)
    (leb→le (down e) (2 ^ low f) (and_r (A && B) D (and_l (A && B && D) E h)))
    (ltb→lt (suc m * up e) (2 ^ suc (emax f) * down e) (and_r (A && B && D) E h))

pub zero_is : num 0 ≡ fin false 0 (pos 0)
unfolding ratio round
zero_is = refl

pub above_zero : (x : Float) → (lt (num 0) x && finite x) ≡ positive x
unfolding lt
above_zero x = rw zero_is (go x)
  where
    go : (x : Float) → (lt (fin false 0 (pos 0)) x && finite x) ≡ positive x
    go nan = refl
    go (inf true) = refl
    go (inf false) = refl
    go (fin true m e) = refl
    go (fin false zero e) = rw (zero-mul (down e), zero-mul (up e))
    go (fin false (suc m) e) = rw (zero-mul (down e), mul-one (suc m * up e), lt-ltb 0 (suc m * up e) (mul-pos (zero-lt-suc m) (up_pos e)), lt-ltb 0 (suc m) (zero-lt-suc m))

pub root_serves : (f : Format) (x : Float) → T (fits f x) → (lt (num 0) x && finite x) ≡ true → (lt (num 0) (rooted f x) && finite (rooted f x)) ≡ true
root_serves f x h p = above_zero (rooted f x) ∙ is_true (positive (rooted f x)) (rooted_positive f x h (subst T (sym p ∙ above_zero x) tt))
