-- `rounding::narrow_bits` meets its contract: each way through it is a law of `proofs/Narrowing.antt`. Assumes nothing.
use Rattle.std.proofs.Common.{◌≡◌, ℕ, ◌+◌, ◌-◌, ◌/◌, ◌%◌, ◌^◌, ◌<◌, ◌≤◌, min, sym, ap, ◌∙◌, subst, inl, inr, add_comm, eq-or-lt_of_le, arith}
use lib.Bits.{bit_and, and_mask}
use lib.Ieee.Nearest.{closest}
use Rattle.numbers.proofs.Word.{below_pow}
use Rattle.rounding.proofs.Narrowing.{closest_le, signed, tiny, fine, coarse, infinite, parts, whole}
use Rattle.rounding.proofs.narrow_bits.Goals as goal

-- ---- normal as an f32, or beyond it
digits_lt : (m : ℕ) → m % 2 ^ 52 < 2 ^ 52
digits_lt m = omega arith

left : (a b : ℕ) → a < b → a ≡ min a b
left a b h = omega arith

right : (a b : ℕ) → b ≤ a → b ≡ min a b
right a b h = omega arith

no_digits : (m : ℕ) → m ≤ 0x7ff0_0000_0000_0000 → m / 2 ^ 52 ≡ 2047 → m % 2 ^ 52 ≡ 0
no_digits m h e = omega arith

exponent_le : (m : ℕ) → m ≤ 0x7ff0_0000_0000_0000 → m / 2 ^ 52 ≤ 2047
exponent_le m h = omega arith

pub returns-then-n-lt2139095040 : goal.returns-then-n-lt2139095040
returns-then-n-lt2139095040 c =
    let m = c.args.mag in
    let r = c.nearest_shift-n.result in
    let h = c.if-e-ge897.true in
    let e : r ≡ parts m = c.nearest_shift-n.ensures ∙ whole m h in (
      omega arith,
      λ s. ap (signed s) (left r 0x7f80_0000 c.if-n-lt2139095040.true ∙ ap (λ (x : ℕ). min x 0x7f80_0000) e)
          ∙ sym (coarse s (m / 2 ^ 52) (m % 2 ^ 52) h (omega (arith, e, c.if-n-lt2139095040.true)) (digits_lt m)),
    )

pub returns-then-e-ge897 : goal.returns-then-e-ge897
returns-then-e-ge897 c =
    let m = c.args.mag in
    let r = c.nearest_shift-n.result in
    let h = c.if-e-ge897.true in
    let e : r ≡ parts m = c.nearest_shift-n.ensures ∙ whole m h in (
      omega arith,
      λ s. elim (eq-or-lt_of_le (exponent_le m c.requires)) [
        | inl x ↦ sym (infinite s (m / 2 ^ 52) (m % 2 ^ 52) x (no_digits m c.requires x))
        | inr l ↦
            ap (signed s) (right r 0x7f80_0000 c.if-n-lt2139095040.false ∙ ap (λ (x : ℕ). min x 0x7f80_0000) e)
            ∙ sym (coarse s (m / 2 ^ 52) (m % 2 ^ 52) h l (digits_lt m))
      ],
    )

-- ---- a zero, or subnormal, as an f32
pub returns-then-e-lt873 : goal.returns-then-e-lt873
returns-then-e-lt873 c = (omega arith, λ s. sym (tiny s (c.args.mag / 2 ^ 52) (c.args.mag % 2 ^ 52) c.if-e-lt873.true (omega arith)))

pub overflow_add-q : goal.overflow_add-q
overflow_add-q c = omega (arith, and_mask c.args.mag 52)

pub nearest_shift-requires : goal.nearest_shift-requires
nearest_shift-requires c = omega (arith, and_mask c.args.mag 52)

-- the significand, as the laws have it
digits_are : (m : ℕ) → bit_and m 0xf_ffff_ffff_ffff + 2 ^ 52 ≡ 2 ^ 52 + m % 2 ^ 52
digits_are m = ap (λ (x : ℕ). x + 2 ^ 52) (and_mask m 52) ∙ add_comm (m % 2 ^ 52) (2 ^ 52)

kept : (m sh r : ℕ) → r ≡ closest (bit_and m 0xf_ffff_ffff_ffff + 2 ^ 52) (2 ^ sh) → r ≡ closest (2 ^ 52 + m % 2 ^ 52) (2 ^ sh)
kept m sh r e = e ∙ ap (λ (x : ℕ). closest x (2 ^ sh)) (digits_are m)

kept_small : (m sh r : ℕ) → 29 ≤ sh → r ≡ closest (bit_and m 0xf_ffff_ffff_ffff + 2 ^ 52) (2 ^ sh) → r ≤ 2 ^ 24
kept_small m sh r h e =
    subst (λ (x : ℕ). x ≤ 2 ^ 24) (sym (kept m sh r e))
    (closest_le (2 ^ 52 + m % 2 ^ 52) 24 sh (below_pow (2 ^ 52 + m % 2 ^ 52) 53 (24 + sh) (omega arith) (omega arith)))

pub overflow_cast-result-2 : goal.overflow_cast-result-2
overflow_cast-result-2 c =
    let m = c.args.mag in
    omega (arith, kept_small m (926 - m / 2 ^ 52) c.nearest_shift.result (omega arith) c.nearest_shift.ensures)

pub returns : goal.returns
returns c =
    let m = c.args.mag in
    let r = c.nearest_shift.result in (
      omega (arith, kept_small m (926 - m / 2 ^ 52) r (omega arith) c.nearest_shift.ensures),
      λ s. ap (signed s) (kept m (926 - m / 2 ^ 52) r c.nearest_shift.ensures)
          ∙ sym (fine s (m / 2 ^ 52) (m % 2 ^ 52) (omega arith) (omega arith) (omega arith)),
    )
