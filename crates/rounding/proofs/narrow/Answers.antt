-- `rounding::narrow` meets its contract: the sign is put back on what `narrow_bits` makes of the other bits. Assumes nothing.
use Rattle.std.proofs.Common.{◌≡◌, ℕ, ◌+◌, ◌*◌, ◌/◌, ◌%◌, ◌^◌, ◌<◌, ◌≤◌, Bool, true, false, cond, not, T, leb, sym, ap, ◌∙◌, subst, arith, leb→le}
use lib.Dec.{nleb→lt}
use lib.Bits.{and_mask}
use lib.Ieee.{binary32, binary64, fits, of_bits, to_bits, of_fields}
use lib.Ieee.Bits.{to_bits-lt}
use Rattle.rounding.specs.Rounding.{rounded}
use Rattle.numbers.proofs.Read.{by_fields, nan_by, no_nan_by, no_nan_bits, bits_no_nan}
use Rattle.rounding.proofs.narrow.Goals as goal

pub returns-then-is_nan : goal.returns-then-is_nan
unfolding of_bits rounded
returns-then-is_nan c = ap (rounded binary32) (sym (nan_by c.args.x c.is_nan.result c.is_nan.ensures.value c.if-is_nan.true))

pub float_to_bits-b : goal.float_to_bits-b
float_to_bits-b c = no_nan_by c.args.x c.is_nan.result c.is_nan.ensures.value c.if-is_nan.false

pub overflow_cast-sign : goal.overflow_cast-sign
overflow_cast-sign c =
    let held : T (fits binary64 c.args.x) = subst T (sym c.well_formed.0.1) tt in
    omega (arith, to_bits-lt binary64 c.args.x (held))

pub narrow_bits-mag-requires : goal.narrow_bits-mag-requires
narrow_bits-mag-requires c =
    let held : T (fits binary64 c.args.x) = subst T (sym c.well_formed.0.1) tt in
    rw (and_mask (to_bits binary64 c.args.x) 63) (no_nan_bits binary64 c.args.x (held) (float_to_bits-b c))

pub float_from_bits-result : goal.float_from_bits-result
float_from_bits-result c = bits_no_nan binary32 _ (omega arith)

sign : (b : ℕ) → b < 2 ^ 64 → b / 2 ^ 63 * 2 ^ 31 % 2 ^ 32 ≡ cond (leb (2 ^ 63) b) (2 ^ 31) 0
sign b h = go (leb (2 ^ 63) b) (leb→le (2 ^ 63) b) (nleb→lt (2 ^ 63) b)
  where
    one : 2 ^ 63 ≤ b → b / 2 ^ 63 * 2 ^ 31 % 2 ^ 32 ≡ 2 ^ 31
    one l = omega arith

    none : b < 2 ^ 63 → b / 2 ^ 63 * 2 ^ 31 % 2 ^ 32 ≡ 0
    none l = omega arith

    go : (t : Bool) → (T t → 2 ^ 63 ≤ b) → (T (not t) → b < 2 ^ 63) → b / 2 ^ 63 * 2 ^ 31 % 2 ^ 32 ≡ cond t (2 ^ 31) 0
    go true l g = one (l tt)
    go false l g = none (g tt)

pub returns : goal.returns
returns c =
    let held : T (fits binary64 c.args.x) = subst T (sym c.well_formed.0.1) tt in
    let x = c.args.x in
    let b = to_bits binary64 x in
    let s = leb (2 ^ 63) b in
    ap (λ (z : ℕ). of_bits binary32 (z + c.narrow_bits-mag.result)) (sign b (to_bits-lt binary64 x (held)))
    ∙ c.narrow_bits-mag.ensures.1 s
    ∙ ap (λ (m : ℕ). rounded binary32 (of_fields binary64 s (m / 2 ^ 52) (m % 2 ^ 52))) (and_mask b 63)
    ∙ ap (rounded binary32) (sym (by_fields binary64 x (held)))
