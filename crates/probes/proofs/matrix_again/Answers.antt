use lib.Ieee.{of_bits}
use Rattle.numbers.specs.Notation.{ratio}
use Rattle.probes.proofs.matrix_again.Goals as goal

pub returns : goal.returns
unfolding ratio of_bits
returns c = c.rebuilt_matrix.ensures
