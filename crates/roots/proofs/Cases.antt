-- The roots that take no digits: of a zero, of an infinity, of what is below 0; and each answer by the tests of the bits. For either format. Assumes nothing.
use Rattle.std.proofs.Common.{◌≡◌, ℕ, zero, suc, ◌+◌, ◌-◌, ◌*◌, ◌/◌, ◌%◌, ◌^◌, ◌<◌, ◌≤◌, Bool, true, false, not, ◌&&◌, T, ltb, leb, ◌⊎◌, sym, refl, ap, ◌∙◌, subst, inl, inr, true≢false, lt_of_lt_of_le, le-add_right, le_of_lt, mod-eq_of_lt, mul_assoc, eq-zero-or-pos, le_antisymm, eq-or-lt_of_le, mul-pos, le-div_iff_mul-le, arith, le→leb, pow_pos, ltb-false, ltb-true}
use native.Mathlib.Nat.{zero-mod, mod_self, mod-eq-sub-mod}
use lib.Arith.{lt→nleb}
use lib.Ieee.{Float, nan, inf, fin, Format, binary32, binary64, prec, low, up, down, fits, is_nan, hid, ones, top, div, to_bits, of_bits, of_fields}
use lib.Ieee.Fits.{down_pos}
use lib.Ieee.Bits.{is_true, is_false, to_bits-lt}
use lib.Ieee.Exact.{HasValue}
use Rattle.roots.specs.Roots.{rooted}
use Rattle.numbers.proofs.Read.{by_fields, read_low, read_high, read_inf, no_nan_bits}
use Rattle.numbers.proofs.Word.{rest_pos, quotient_le, rest_zero}
use Rattle.numbers.proofs.Tests.{true_or_false, and_first, and_second}

hid_pos : (f : Format) → 0 < hid f
hid_pos f = pow_pos (prec f - 1)

-- ---- a zero

zero_same : (f : Format) (s : Bool) → of_fields f s (0 / hid f) (0 % hid f) ≡ rooted f (of_fields f s (0 / hid f) (0 % hid f))
unfolding of_fields rooted
zero_same binary32 s = refl
zero_same binary64 s = refl

root_zero : (f : Format) (x : Float) → T (fits f x) → to_bits f x % top f ≡ 0 → x ≡ rooted f x
root_zero f x h z =
    let s = leb (top f) (to_bits f x) in
    let e : x ≡ of_fields f s (0 / hid f) (0 % hid f) = by_fields f x h ∙ ap (λ (y : ℕ). of_fields f s (y / hid f) (y % hid f)) z in
    e ∙ zero_same f s ∙ ap (rooted f) (sym e)

-- ---- below 0

none : (x : ℕ) → 0 < x → (z : ℕ) → 0 * z ≡ x → ⊥
none x p z q = omega arith

negative_value : (f : Format) (v : Float) (n c : ℕ) → 0 < n → HasValue v true n c → rooted f v ≡ nan
unfolding rooted
negative_value f nan n c P h = absurd h
negative_value f (inf s) n c P h = absurd h
negative_value f (fin false m e) n c P h = absurd (true≢false (sym h.0))
negative_value f (fin true zero e) n c P h = absurd (none (n * down e) (mul-pos P (down_pos e)) (up e * c) (sym (mul_assoc 0 (up e) c) ∙ h.1))
negative_value f (fin true (suc m) e) n c P h = refl

negative_inf : (f : Format) → rooted f (inf true) ≡ nan
unfolding rooted
negative_inf f = refl

negative_fields : (f : Format) (b : ℕ) → 0 < b → b ≤ ones f * hid f → rooted f (of_fields f true (b / hid f) (b % hid f)) ≡ nan
negative_fields f b p l = elim (eq-or-lt_of_le (quotient_le (hid f) b (ones f) (hid_pos f) l)) [
  | inl e ↦ ap (rooted f) (read_inf f true (b / hid f) (b % hid f) e (rest_zero (hid f) b (ones f) l e)) ∙ negative_inf f
  | inr g ↦
      elim (eq-zero-or-pos (b / hid f)) [
        | inl z ↦
            ap (λ (y : ℕ). rooted f (of_fields f true y (b % hid f))) z
            ∙ negative_value f (of_fields f true 0 (b % hid f)) (b % hid f * 2 ^ 0) (2 ^ low f)
            (mul-pos (rest_pos (hid f) b p z) (pow_pos 0)) (read_low f true (b % hid f))
        | inr q ↦
            negative_value f (of_fields f true (b / hid f) (b % hid f)) ((hid f + b % hid f) * 2 ^ (b / hid f - 1)) (2 ^ low f)
            (mul-pos (lt_of_lt_of_le (hid_pos f) (le-add_right (hid f) (b % hid f))) (pow_pos (b / hid f - 1)))
            (read_high f true (b / hid f) (b % hid f) q g)
      ]
]

root_negative : (f : Format) (x : Float) → T (fits f x) → T (not (is_nan x)) → 0 < to_bits f x % top f → top f ≤ to_bits f x → rooted f x ≡ nan
root_negative f x h n p l =
    let b = to_bits f x in
    ap (rooted f) (by_fields f x h ∙ ap (λ (s : Bool). of_fields f s (b % top f / hid f) (b % top f % hid f)) (is_true (leb (top f) b) (le→leb (top f) b l)))
    ∙ negative_fields f (b % top f) p (no_nan_bits f x h n)

-- ---- no sign

no_sign : (f : Format) (x : Float) → T (fits f x) → to_bits f x < top f → x ≡ of_fields f false (to_bits f x / hid f) (to_bits f x % hid f)
no_sign f x h l =
    let b = to_bits f x in
    by_fields f x h
    ∙ ap (λ (s : Bool). of_fields f s (b % top f / hid f) (b % top f % hid f)) (is_false (leb (top f) b) (lt→nleb (top f) b l))
    ∙ ap (λ (y : ℕ). of_fields f false (y / hid f) (y % hid f)) (mod-eq_of_lt l)

inf_same : (f : Format) → inf false ≡ rooted f (inf false)
unfolding rooted
inf_same f = refl

root_inf : (f : Format) (x : Float) → T (fits f x) → T (not (is_nan x)) → to_bits f x < top f → ones f * hid f ≤ to_bits f x → x ≡ rooted f x
root_inf f x h n l g =
    let b = to_bits f x in
    let u : b ≤ ones f * hid f = subst (λ (y : ℕ). y ≤ ones f * hid f) (mod-eq_of_lt l) (no_nan_bits f x h n) in
    let q : b / hid f ≡ ones f = le_antisymm (quotient_le (hid f) b (ones f) (hid_pos f) u) (quotient_ge b g) in
    let e : x ≡ inf false = no_sign f x h l ∙ read_inf f false (b / hid f) (b % hid f) q (rest_zero (hid f) b (ones f) u q) in
    e ∙ inf_same f ∙ ap (rooted f) (sym e)
  where
    quotient_ge : (b : ℕ) → ones f * hid f ≤ b → ones f ≤ b / hid f
    quotient_ge b g = (le-div_iff_mul-le (hid_pos f)).1 g

nan_same : (f : Format) → nan ≡ rooted f nan
unfolding rooted
nan_same f = refl

pub root_nan : (f : Format) (x : Float) → x ≡ nan → x ≡ rooted f x
root_nan f x e = e ∙ nan_same f ∙ ap (rooted f) (sym e)

-- ---- the answers, by the tests of the number and of its bits that lead to them

pub root_same_nan : (f : Format) (x : Float) → is_nan x ≡ true → x ≡ rooted f x
unfolding is_nan
root_same_nan f nan e = root_nan f nan refl
root_same_nan f (inf s) e = absurd (true≢false (sym e))
root_same_nan f (fin s m k) e = absurd (true≢false (sym e))

-- `(0 < b) & (b < t)` is true
pub in_range : (b t : ℕ) → (ltb 0 b && ltb b t) ≡ true → (0 < b) × (b < t)
in_range b t h = (ltb-true 0 b (and_first (ltb 0 b) (ltb b t) h), ltb-true b t (and_second (ltb 0 b) (ltb b t) h))

-- it is false
out_of_range : (b t : ℕ) → (ltb 0 b && ltb b t) ≡ false → (b ≡ 0) ⊎ (t ≤ b)
out_of_range b t h = elim (true_or_false (ltb 0 b)) [
  | inl e ↦ inr (ltb-false b t (ap (λ (a : Bool). a && ltb b t) (sym e) ∙ h))
  | inr e ↦ inl (nothing b (ltb-false 0 b e))
]
  where
    nothing : (b : ℕ) → b ≤ 0 → b ≡ 0
    nothing b l = omega arith

-- finite and above 0: the root of the fields, whose bits are r
pub root_of_bits : (f : Format) (x : Float) (r : ℕ) → T (fits f x) → to_bits f x < top f
    → rooted f (of_fields f false (to_bits f x / hid f) (to_bits f x % hid f)) ≡ of_bits f r → of_bits f r ≡ rooted f x
root_of_bits f x r h l e = sym (ap (rooted f) (no_sign f x h l) ∙ e)

a_nan : (f : Format) → div f (of_bits f 0) (of_bits f 0) ≡ nan
unfolding div of_bits
a_nan binary32 = refl
a_nan binary64 = refl

rest_above : (b t : ℕ) → t < b → b < 2 * t → 0 < b % t
rest_above b t l u =
    let s : b - t < t = omega arith in
    let e : b % t ≡ b - t = mod-eq-sub-mod (le_of_lt l) ∙ mod-eq_of_lt s in
    omega arith

-- below 0
pub no_root : (f : Format) (x : Float) → T (fits f x) → T (not (is_nan x)) → top f < to_bits f x → div f (of_bits f 0) (of_bits f 0) ≡ rooted f x
no_root f x h n l = a_nan f ∙ sym (root_negative f x h n (rest_above (to_bits f x) (top f) l (to_bits-lt f x h)) (le_of_lt l))

-- a zero or the infinity
pub root_same : (f : Format) (x : Float) → T (fits f x) → T (not (is_nan x))
    → (ltb 0 (to_bits f x) && ltb (to_bits f x) (ones f * hid f)) ≡ false → to_bits f x ≤ top f → x ≡ rooted f x
root_same f x h n o l = elim (out_of_range (to_bits f x) (ones f * hid f) o) [
  | inl z ↦ root_zero f x h (ap (λ (y : ℕ). y % top f) z ∙ zero-mod (top f))
  | inr g ↦
      elim (eq-or-lt_of_le l) [
        | inl e ↦ root_zero f x h (ap (λ (y : ℕ). y % top f) e ∙ mod_self (top f))
        | inr k ↦ root_inf f x h n k g
      ]
]
