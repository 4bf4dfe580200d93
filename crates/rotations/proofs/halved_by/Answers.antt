use lib.Ieee.{of_bits}
use Rattle.numbers.specs.Notation.{ratio}
use Rattle.rotations.specs.FromMatrix.{halved_by}
use Rattle.rotations.proofs.halved_by.Goals as goal

pub returns : goal.returns
unfolding halved_by ratio of_bits
returns c = rw c.sqrt32-k.ensures
