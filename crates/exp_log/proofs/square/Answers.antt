use lib.Ieee.{of_bits}
use Rattle.numbers.specs.Notation.{ratio}
use Rattle.exp_log.specs.ExpLog.{squared}
use Rattle.exp_log.proofs.square.Goals as goal

pub returns : goal.returns
unfolding squared ratio of_bits
returns c = rw (c.dot_of.ensures, c.scaled-u.ensures, c.axis_of-v.ensures)
