use lib.Ieee.{of_bits}
use Rattle.numbers.specs.Notation.{ratio}
use Rattle.numbers.proofs.Choices.{taken, left}
use Rattle.exp_log.specs.ExpLog.{bend}
use Rattle.exp_log.proofs.bend_of.Goals as goal

pub returns-then-s : goal.returns-then-s
unfolding bend ratio of_bits
returns-then-s c = taken _ (rw (← c.dot_of-s.ensures) c.if-s.true) (rw (c.small_bend.ensures, c.dot_of-s.ensures))

pub returns-else-s : goal.returns-else-s
unfolding bend ratio of_bits
returns-else-s c = left _ (rw (← c.dot_of-s.ensures) c.if-s.false) (rw (c.large_bend.ensures, c.dot_of-s.ensures))
