-- `rounding::round32` meets its contract: from 2^-126 up to where an infinity is nearest by the laws of `proofs/Widening.antt`, elsewhere by `narrow`.
-- Assumes nothing.
use Rattle.std.proofs.Common.{◌≡◌, ℕ, ◌+◌, ◌/◌, ◌%◌, ◌^◌, ◌<◌, ◌≤◌, T, leb, sym, ap, ◌∙◌, subst, arith, leb→le}
use lib.Bits.{bit_and, and_mask}
use lib.Ieee.{binary32, binary64, fits, of_bits, to_bits}
use lib.Ieee.Bits.{to_bits-lt}
use Rattle.rounding.specs.Rounding.{rounded}
use Rattle.numbers.proofs.Read.{by_fields, nan_by, no_nan_by, bits_no_nan}
use Rattle.rounding.proofs.Widening.{Within, in_place, sum_in_place, in_place_finite}
use Rattle.rounding.proofs.round32.Goals as goal

pub returns-then-is_nan : goal.returns-then-is_nan
unfolding of_bits rounded
returns-then-is_nan c = ap (rounded binary32) (sym (nan_by c.args.x c.is_nan.result c.is_nan.ensures.value c.if-is_nan.true))

pub float_to_bits-b : goal.float_to_bits-b
float_to_bits-b c = no_nan_by c.args.x c.is_nan.result c.is_nan.ensures.value c.if-is_nan.false

-- what is below a bound that is low enough did not wrap, and rounds to no infinity
passed : (b less bound : ℕ) → (less + 0x3810_0000_0000_0000) % 2 ^ 64 ≡ bit_and b 0x7fff_ffff_ffff_ffff → less < bound
    → T (leb bound 0x0fdf_ffff_f000_0000) → Within (b % 2 ^ 63)
passed b less bound e l h =
    let m : (less + 0x3810_0000_0000_0000) % 2 ^ 64 ≡ b % 2 ^ 63 = e ∙ and_mask b 63 in
    let k : bound ≤ 0x0fdf_ffff_f000_0000 = leb→le _ _ h in
    (omega arith, omega arith)

pub overflow_add-result : goal.overflow_add-result
overflow_add-result c =
    let within : Within (to_bits binary64 c.args.x % 2 ^ 63) = passed (to_bits binary64 c.args.x) c.wrapping_sub_u64.result _ c.wrapping_sub_u64.ensures.value c.if-wrapping_sub_u64-lt-IN_PLACE.true tt in
    let held : T (fits binary64 c.args.x) = subst T (sym c.well_formed.0.1) tt in
    let bits-lt : to_bits binary64 c.args.x < 2 ^ 64 = to_bits-lt binary64 c.args.x (held) in
    omega (arith, (within).1, bits-lt)

pub overflow_add-result-then-wrapping_sub_u64-lt-IN_PLACE : goal.overflow_add-result-then-wrapping_sub_u64-lt-IN_PLACE
overflow_add-result-then-wrapping_sub_u64-lt-IN_PLACE c =
    let within : Within (to_bits binary64 c.args.x % 2 ^ 63) = passed (to_bits binary64 c.args.x) c.wrapping_sub_u64.result _ c.wrapping_sub_u64.ensures.value c.if-wrapping_sub_u64-lt-IN_PLACE.true tt in
    let held : T (fits binary64 c.args.x) = subst T (sym c.well_formed.0.1) tt in
    let bits-lt : to_bits binary64 c.args.x < 2 ^ 64 = to_bits-lt binary64 c.args.x (held) in
    omega (arith, (within).1, bits-lt, and_mask (to_bits binary64 c.args.x / 2 ^ 29) 1)

pub float_from_bits-result : goal.float_from_bits-result
float_from_bits-result c =
    let within : Within (to_bits binary64 c.args.x % 2 ^ 63) = passed (to_bits binary64 c.args.x) c.wrapping_sub_u64.result _ c.wrapping_sub_u64.ensures.value c.if-wrapping_sub_u64-lt-IN_PLACE.true tt in
    let held : T (fits binary64 c.args.x) = subst T (sym c.well_formed.0.1) tt in
    let bits-lt : to_bits binary64 c.args.x < 2 ^ 64 = to_bits-lt binary64 c.args.x (held) in
    bits_no_nan binary64 _ (in_place_finite (to_bits binary64 c.args.x) (within) (bits-lt))

pub returns-then-wrapping_sub_u64-lt-IN_PLACE : goal.returns-then-wrapping_sub_u64-lt-IN_PLACE
returns-then-wrapping_sub_u64-lt-IN_PLACE c =
    let within : Within (to_bits binary64 c.args.x % 2 ^ 63) = passed (to_bits binary64 c.args.x) c.wrapping_sub_u64.result _ c.wrapping_sub_u64.ensures.value c.if-wrapping_sub_u64-lt-IN_PLACE.true tt in
    let held : T (fits binary64 c.args.x) = subst T (sym c.well_formed.0.1) tt in
    let bits-lt : to_bits binary64 c.args.x < 2 ^ 64 = to_bits-lt binary64 c.args.x (held) in
    let x = c.args.x in
    let b = to_bits binary64 x in
    ap (of_bits binary64) (sum_in_place b (within) (bits-lt))
    ∙ sym (in_place (b % 2 ^ 63) (within) (leb (2 ^ 63) b))
    ∙ ap (rounded binary32) (sym (by_fields binary64 x (held)))

pub returns : goal.returns
returns c = c.from.ensures ∙ c.narrow.ensures
