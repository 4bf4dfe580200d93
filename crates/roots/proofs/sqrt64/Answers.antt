-- `roots::sqrt64` meets its contract: each return is a law of `proofs/Cases.antt`, with what `sqrt64_bits` ensures. Assumes nothing.
use Rattle.std.proofs.Common.{T, sym, ◌∙◌, subst, arith}
use lib.Ieee.{binary64, fits, to_bits, of_bits, div}
use Rattle.numbers.proofs.Read.{bits_no_nan, no_nan_by}
use Rattle.roots.proofs.Cases.{root_same_nan, in_range, root_of_bits, no_root, root_same}
use Rattle.roots.proofs.sqrt64.Goals as goal

pub returns-then-is_nan : goal.returns-then-is_nan
returns-then-is_nan c = root_same_nan binary64 c.args.x (sym c.is_nan.ensures.value ∙ c.if-is_nan.true)

pub sqrt64_bits-requires : goal.sqrt64_bits-requires
sqrt64_bits-requires c = in_range _ _ c.if-b.true

pub float_from_bits-result : goal.float_from_bits-result
float_from_bits-result c = bits_no_nan binary64 c.sqrt64_bits.result (omega (arith, c.sqrt64_bits.ensures.0))

pub returns-then-b : goal.returns-then-b
returns-then-b c =
    let held : T (fits binary64 c.args.x) = subst T (sym c.well_formed.0.1) tt in
    root_of_bits binary64 c.args.x c.sqrt64_bits.result held (omega (arith, (in_range (to_bits binary64 c.args.x) 0x7ff0_0000_0000_0000 c.if-b.true).1)) c.sqrt64_bits.ensures.1

pub returns-then-b-gt9223372036854775808 : goal.returns-then-b-gt9223372036854775808
unfolding of_bits div
returns-then-b-gt9223372036854775808 c =
    let held : T (fits binary64 c.args.x) = subst T (sym c.well_formed.0.1) tt in
    no_root binary64 c.args.x held (no_nan_by c.args.x c.is_nan.result c.is_nan.ensures.value c.if-is_nan.false) c.if-b-gt9223372036854775808.true

pub returns : goal.returns
returns c =
    let held : T (fits binary64 c.args.x) = subst T (sym c.well_formed.0.1) tt in
    root_same binary64 c.args.x held (no_nan_by c.args.x c.is_nan.result c.is_nan.ensures.value c.if-is_nan.false) c.if-b.false c.if-b-gt9223372036854775808.false
