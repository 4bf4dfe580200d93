-- An `f32` that is normal has, as an `f64`, the same digits and an exponent's field that is higher by 896; so an `f64` is rounded to an `f32` in place.
-- Assumes nothing.
use Rattle.std.proofs.Common.{◌≡◌, ℕ, ◌+◌, ◌-◌, ◌*◌, ◌/◌, ◌%◌, ◌^◌, ◌<◌, ◌≤◌, min, Bool, true, false, cond, not, T, leb, sym, refl, ap, ◌∙◌, subst, le-add_right, mod-eq_of_lt, mul_assoc, mul_right_comm, mul_left_comm, arith, le→leb, leb→le, pow-add}
use native.Mathlib.Nat.{add-mod_left}
use lib.Dec.{nleb→lt}
use lib.Arith.{lt→nleb}
use lib.Bits.{bit_and, and_mask, and_high}
use lib.Ieee.{Float, nan, inf, fin, Format, binary32, binary64, up, hid, top, of_bits, of_fields}
use lib.Ieee.Fits.{fits_widens}
use lib.Ieee.Bits.{is_true, is_false, of_bits-fits}
use lib.Ieee.Exact.{HasValue}
use lib.Ieee.Nearest.{closest}
use Rattle.rounding.specs.Rounding.{rounded}
use Rattle.numbers.proofs.Write.{same_value}
use Rattle.numbers.proofs.Read.{of_pattern, read_high}
use Rattle.numbers.proofs.Word.{rounded_by_carry}
use Rattle.rounding.proofs.Narrowing.{signed, moved, whole, coarse}

-- ---- values by their fractions

-- the fraction with both its terms multiplied
value_scaled : (v : Float) (s : Bool) (a c k : ℕ) → HasValue v s a c → HasValue v s (a * k) (c * k)
value_scaled nan s a c k h = absurd h
value_scaled (inf t) s a c k h = absurd h
value_scaled (fin t m e) s a c k h = (h.0, sym (mul_assoc (m * up e) c k) ∙ ap (λ (x : ℕ). x * k) h.1 ∙ mul_right_comm a _ k)

-- the fields of a pattern that is written as its sign and the other bits
of_signed : (f : Format) (s : Bool) (n : ℕ) → n < top f → of_bits f (cond s (top f) 0 + n) ≡ of_fields f s (n / hid f) (n % hid f)
of_signed f s n h = of_pattern f (cond s (top f) 0 + n) ∙ go s
  where
    go : (s : Bool) → of_fields f (leb (top f) (cond s (top f) 0 + n)) ((cond s (top f) 0 + n) % top f / hid f) ((cond s (top f) 0 + n) % top f % hid f)
        ≡ of_fields f s (n / hid f) (n % hid f)
    go true =
        ap (λ (b : Bool). of_fields f b ((top f + n) % top f / hid f) ((top f + n) % top f % hid f))
        (is_true (leb (top f) (top f + n)) (le→leb (top f) (top f + n) (le-add_right (top f) n)))
        ∙ ap (λ (y : ℕ). of_fields f true (y / hid f) (y % hid f)) (add-mod_left (top f) n ∙ mod-eq_of_lt h)
    go false =
        ap (λ (y : ℕ). of_fields f (leb (top f) y) (y % top f / hid f) (y % top f % hid f)) (plain n)
        ∙ ap (λ (b : Bool). of_fields f b (n % top f / hid f) (n % top f % hid f)) (is_false (leb (top f) n) (lt→nleb (top f) n h))
        ∙ ap (λ (y : ℕ). of_fields f false (y / hid f) (y % hid f)) (mod-eq_of_lt h)
      where
        plain : (n : ℕ) → 0 + n ≡ n
        plain n = omega arith

-- ---- a normal f32 as an f64

-- the bits of the f64, without the sign's
abbrev in64 : ℕ → ℕ
in64 n = n * 2 ^ 29 + 0x3800_0000_0000_0000

shuffle : (q a b c : ℕ) → q * a * (b * c) ≡ q * b * (a * c)
shuffle q a b c = simp (mul_assoc, mul_left_comm)

widened : (s : Bool) (n : ℕ) → 2 ^ 23 ≤ n → n < 0x7f80_0000 → signed s n ≡ of_bits binary64 (cond s (2 ^ 63) 0 + in64 n)
widened s n l h =
    same_value binary64 (signed s n) (of_bits binary64 (cond s (2 ^ 63) 0 + in64 n)) s ((2 ^ 23 + n % 2 ^ 23) * 2 ^ (n / 2 ^ 23 - 1) * 2 ^ 925)
    (fits_widens (signed s n) (of_bits-fits binary32 (cond s (2 ^ 31) 0 + n)))
    (of_bits-fits binary64 (cond s (2 ^ 63) 0 + in64 n))
    narrow_value
    wide_value
  where
    narrow_value : HasValue (signed s n) s ((2 ^ 23 + n % 2 ^ 23) * 2 ^ (n / 2 ^ 23 - 1) * 2 ^ 925) (2 ^ 1074)
    narrow_value =
        subst (λ (v : Float). HasValue v s ((2 ^ 23 + n % 2 ^ 23) * 2 ^ (n / 2 ^ 23 - 1) * 2 ^ 925) (2 ^ 1074)) (sym (of_signed binary32 s n (omega arith)))
        (value_scaled (of_fields binary32 s (n / 2 ^ 23) (n % 2 ^ 23)) s ((2 ^ 23 + n % 2 ^ 23) * 2 ^ (n / 2 ^ 23 - 1)) (2 ^ 149) (2 ^ 925)
        (read_high binary32 s (n / 2 ^ 23) (n % 2 ^ 23) (omega arith) (omega arith)))

    digits : 2 ^ 52 + in64 n % 2 ^ 52 ≡ (2 ^ 23 + n % 2 ^ 23) * 2 ^ 29
    digits = omega arith

    exponent : in64 n / 2 ^ 52 - 1 ≡ n / 2 ^ 23 - 1 + 896
    exponent = omega arith

    units_are : (2 ^ 52 + in64 n % 2 ^ 52) * 2 ^ (in64 n / 2 ^ 52 - 1) ≡ (2 ^ 23 + n % 2 ^ 23) * 2 ^ (n / 2 ^ 23 - 1) * 2 ^ 925
    units_are =
        ap (λ (x : ℕ). x * 2 ^ (in64 n / 2 ^ 52 - 1)) digits
        ∙ ap (λ (x : ℕ). (2 ^ 23 + n % 2 ^ 23) * 2 ^ 29 * x) (ap (λ (x : ℕ). 2 ^ x) exponent ∙ pow-add 2 (n / 2 ^ 23 - 1) 896)
        ∙ shuffle (2 ^ 23 + n % 2 ^ 23) (2 ^ 29) (2 ^ (n / 2 ^ 23 - 1)) (2 ^ 896)

    wide_value : HasValue (of_bits binary64 (cond s (2 ^ 63) 0 + in64 n)) s ((2 ^ 23 + n % 2 ^ 23) * 2 ^ (n / 2 ^ 23 - 1) * 2 ^ 925) (2 ^ 1074)
    wide_value =
        subst (λ (v : Float). HasValue v s ((2 ^ 23 + n % 2 ^ 23) * 2 ^ (n / 2 ^ 23 - 1) * 2 ^ 925) (2 ^ 1074))
        (sym (of_signed binary64 s (in64 n) (omega arith)))
        (subst (λ (x : ℕ). HasValue (of_fields binary64 s (in64 n / 2 ^ 52) (in64 n % 2 ^ 52)) s x (2 ^ 1074)) units_are
        (read_high binary64 s (in64 n / 2 ^ 52) (in64 n % 2 ^ 52) (omega arith) (omega arith)))

-- ---- rounded in place

-- where what is rounded is no less than the least normal f32, and less than what rounds to an infinity
abbrev pub Within : ℕ → Type 0
Within m = (0x3810_0000_0000_0000 ≤ m) × (m < 0x47ef_ffff_f000_0000)

module _ (m : ℕ) (w : Within m) where
  sum : (moved m + (2 ^ 28 - 1) + moved m / 2 ^ 29 % 2) / 2 ^ 29 ≡ closest (moved m) (2 ^ 29)
  sum = rounded_by_carry (moved m) 29 (2 ^ 28) refl

  lo : 2 ^ 23 ≤ closest (moved m) (2 ^ 29)
  lo = subst (λ (x : ℕ). 2 ^ 23 ≤ x) sum (omega arith)

  hi : closest (moved m) (2 ^ 29) < 0x7f80_0000
  hi = subst (λ (x : ℕ). x < 0x7f80_0000) sum (omega arith)

  pub in_place : (s : Bool)
      → rounded binary32 (of_fields binary64 s (m / 2 ^ 52) (m % 2 ^ 52)) ≡ of_bits binary64 (cond s (2 ^ 63) 0 + in64 (closest (moved m) (2 ^ 29)))
  in_place s =
      coarse s (m / 2 ^ 52) (m % 2 ^ 52) (omega arith) (omega arith) (omega arith)
      ∙ ap (λ (x : ℕ). signed s (min x 0x7f80_0000)) (sym (whole m (omega arith)))
      ∙ ap (signed s) (less (closest (moved m) (2 ^ 29)) hi)
      ∙ widened s (closest (moved m) (2 ^ 29)) lo hi
    where
      less : (a : ℕ) → a < 0x7f80_0000 → min a 0x7f80_0000 ≡ a
      less a h = omega arith

module _ (b : ℕ) (w : Within (b % 2 ^ 63)) (h : b < 2 ^ 64) where
  -- what stands above the digits that are rounded is an even number of units, and stays
  apart : (k b q : ℕ) → b ≡ k * 2 ^ 30 + q → k ≤ 0x2_e000_0000 → q < 0xfef_ffff_f000_0000
      → (b + 0xfff_ffff + b / 2 ^ 29 % 2) / 2 ^ 29 % 2 ^ 35 * 2 ^ 29 ≡ k * 2 ^ 30 + (q + (2 ^ 28 - 1) + q / 2 ^ 29 % 2) / 2 ^ 29 * 2 ^ 29
  apart k b q e K l =
      ap (λ (p : ℕ). (b + 0xfff_ffff + p) / 2 ^ 29 % 2 ^ 35 * 2 ^ 29) parity ∙ cut (q / 2 ^ 29 % 2) (omega arith)
    where
      parity : b / 2 ^ 29 % 2 ≡ q / 2 ^ 29 % 2
      parity = omega arith

      cut : (p : ℕ) → p ≤ 1 → (b + 0xfff_ffff + p) / 2 ^ 29 % 2 ^ 35 * 2 ^ 29 ≡ k * 2 ^ 30 + (q + (2 ^ 28 - 1) + p) / 2 ^ 29 * 2 ^ 29
      cut p P =
          let u : (b + 0xfff_ffff + p) / 2 ^ 29 ≡ k * 2 + (q + (2 ^ 28 - 1) + p) / 2 ^ 29 = omega arith in
          let v : (q + (2 ^ 28 - 1) + p) / 2 ^ 29 < 0x7f80_0000 = omega arith in
          ap (λ (x : ℕ). x % 2 ^ 35 * 2 ^ 29) u ∙ put ((q + (2 ^ 28 - 1) + p) / 2 ^ 29) v
        where
          put : (v : ℕ) → v < 0x7f80_0000 → (k * 2 + v) % 2 ^ 35 * 2 ^ 29 ≡ k * 2 ^ 30 + v * 2 ^ 29
          put v l = omega arith

  -- half of the last digit kept, less one where that digit is even, carries into the digits kept just where they are to go up
  pub sum_in_place : bit_and (b + 0xfff_ffff + bit_and (b / 2 ^ 29) 1) 0xffff_ffff_e000_0000
      ≡ cond (leb (2 ^ 63) b) (2 ^ 63) 0 + in64 (closest (moved (b % 2 ^ 63)) (2 ^ 29))
  sum_in_place =
      and_high (b + 0xfff_ffff + bit_and (b / 2 ^ 29) 1) 35 29
      ∙ ap (λ (x : ℕ). (b + 0xfff_ffff + x) / 2 ^ 29 % 2 ^ 35 * 2 ^ 29) (and_mask (b / 2 ^ 29) 1)
      ∙ go (leb (2 ^ 63) b) (leb→le (2 ^ 63) b) (nleb→lt (2 ^ 63) b)
      ∙ ap (λ (x : ℕ). cond (leb (2 ^ 63) b) (2 ^ 63) 0 + in64 x) (sum (b % 2 ^ 63) w)
    where
      one : (v : ℕ) → 0x2_e000_0000 * 2 ^ 30 + v * 2 ^ 29 ≡ 2 ^ 63 + in64 v
      one v = omega arith

      none : (v : ℕ) → 0xe000_0000 * 2 ^ 30 + v * 2 ^ 29 ≡ 0 + in64 v
      none v = omega arith

      go : (t : Bool) → (T t → 2 ^ 63 ≤ b) → (T (not t) → b < 2 ^ 63)
          → (b + 0xfff_ffff + b / 2 ^ 29 % 2) / 2 ^ 29 % 2 ^ 35 * 2 ^ 29
          ≡ cond t (2 ^ 63) 0 + in64 ((moved (b % 2 ^ 63) + (2 ^ 28 - 1) + moved (b % 2 ^ 63) / 2 ^ 29 % 2) / 2 ^ 29)
      go true l g =
          let k : 2 ^ 63 ≤ b = l tt in
          apart 0x2_e000_0000 b (moved (b % 2 ^ 63)) (omega arith) (omega arith) (omega arith)
          ∙ one ((moved (b % 2 ^ 63) + (2 ^ 28 - 1) + moved (b % 2 ^ 63) / 2 ^ 29 % 2) / 2 ^ 29)
      go false l g =
          let k : b < 2 ^ 63 = g tt in
          apart 0xe000_0000 b (moved (b % 2 ^ 63)) (omega arith) (omega arith) (omega arith)
          ∙ none ((moved (b % 2 ^ 63) + (2 ^ 28 - 1) + moved (b % 2 ^ 63) / 2 ^ 29 % 2) / 2 ^ 29)

  -- it is no NaN's pattern
  pub in_place_finite : bit_and (b + 0xfff_ffff + bit_and (b / 2 ^ 29) 1) 0xffff_ffff_e000_0000 % 2 ^ 63 ≤ 0x7ff0_0000_0000_0000
  in_place_finite =
      subst (λ (x : ℕ). x % 2 ^ 63 ≤ 0x7ff0_0000_0000_0000) (sym sum_in_place)
      (go (leb (2 ^ 63) b) (closest (moved (b % 2 ^ 63)) (2 ^ 29)) (hi (b % 2 ^ 63) w))
    where
      go : (t : Bool) (v : ℕ) → v < 0x7f80_0000 → (cond t (2 ^ 63) 0 + in64 v) % 2 ^ 63 ≤ 0x7ff0_0000_0000_0000
      go true v l = omega arith
      go false v l = omega arith
