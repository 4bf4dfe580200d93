use Rattle.std.proofs.Common.{refl}
use lib.Ieee.{of_bits}
use Rattle.numbers.specs.Notation.{ratio}
use Rattle.slices.proofs.F64Zero.zero.Goals as goal

pub returns : goal.returns
unfolding ratio of_bits
returns c = refl
