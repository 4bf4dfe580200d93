use mathlib.Core.Path.{refl}
use lib.Ieee.{of_bits}
use Rattle.numbers.specs.Notation.{ratio}
use Rattle.decisions.specs.Damping.{increased}
use Rattle.decisions.proofs.increased_damping.Goals as goal

pub returns : goal.returns
unfolding increased ratio of_bits
returns c = refl
