use lib.Ieee.{of_bits}
use Rattle.numbers.specs.Notation.{ratio}
use Rattle.exp_log.specs.ExpLog.{large_bend}
use Rattle.exp_log.proofs.large_bend.Goals as goal

pub returns : goal.returns
unfolding large_bend ratio of_bits
returns c = rw (c.dot_of.ensures, c.axis_of.ensures, c.sqrt64-theta.ensures)
