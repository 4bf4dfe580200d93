use Rattle.std.proofs.Common.{refl}
use lib.Ieee.{of_bits, div}
use Rattle.numbers.proofs.F32Number.nan.Goals as goal

pub returns : goal.returns
unfolding of_bits div
returns c = refl
