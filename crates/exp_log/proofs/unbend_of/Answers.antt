use lib.Ieee.{of_bits}
use Rattle.numbers.specs.Notation.{ratio}
use Rattle.numbers.proofs.Choices.{taken, left}
use Rattle.exp_log.specs.ExpLog.{unbend, series}
use Rattle.exp_log.proofs.unbend_of.Goals as goal

pub returns-then-s : goal.returns-then-s
unfolding unbend ratio of_bits series
returns-then-s c = taken _ (rw (← c.dot_of-s.ensures) c.if-s.true) (rw c.dot_of-s.ensures)

pub returns : goal.returns
unfolding unbend ratio of_bits
returns c =
    left _ (rw (← c.dot_of-s.ensures) c.if-s.false)
    (rw (
      c.sqrt64-2.ensures,
      c.dot_of.ensures,
      c.sqrt64.ensures,
      c.axis_of-v.ensures,
      c.dot_of-s.ensures,
    ))
