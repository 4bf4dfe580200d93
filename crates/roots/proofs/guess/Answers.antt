-- `roots::guess` meets its contract: nothing is a NaN whose bits are taken, and the bits that are kept are few. Assumes nothing.
use Rattle.std.proofs.Common.{◌+◌, ◌%◌, ◌^◌, arith}
use lib.Bits.{and_mask}
use lib.Ieee.{binary64, to_bits}
use Rattle.numbers.proofs.Read.{bits_no_nan}
use Rattle.roots.proofs.guess.Goals as goal

pub float_from_bits-x : goal.float_from_bits-x
float_from_bits-x c = bits_no_nan binary64 _ (omega arith)

pub float_from_bits-x-2 : goal.float_from_bits-x-2
float_from_bits-x-2 c = bits_no_nan binary64 _ (omega arith)

pub returns : goal.returns
returns c = omega (arith, and_mask ((to_bits binary64 c.better_guess-g.result + 0x20_0000_0000_0000) % 2 ^ 64) 54)
