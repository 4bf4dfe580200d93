use mathlib.Core.Path.{refl}
use lib.Ieee.{of_bits}
use Rattle.numbers.specs.Notation.{ratio, ratio32}
use Rattle.jacobians.proofs.slope_of.Goals as goal

pub returns : goal.returns
unfolding ratio ratio32 of_bits
returns c = refl
