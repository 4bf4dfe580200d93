-- The test says that the bits are no NaN's.
use native.Mathlib.Omega.{arith}
use lib.Ieee.{binary32}
use Rattle.numbers.proofs.Read.{bits_no_nan}
use Rattle.replay.proofs.bytes.F32Recorded.read.Goals as goal

pub float_from_bits-result : goal.float_from_bits-result
float_from_bits-result c = bits_no_nan binary32 c.from_le_bytes-bits.result (omega arith)
