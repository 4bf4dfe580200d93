use lib.Ieee.{of_bits}
use Rattle.numbers.specs.Notation.{ratio}
use mathlib.Core.Path.{refl}
use Rattle.rotations.specs.Rotation.{matrix_of}
use Rattle.rotations.proofs.matrix_of.Goals as goal

pub returns : goal.returns
unfolding matrix_of ratio of_bits
returns c = refl
