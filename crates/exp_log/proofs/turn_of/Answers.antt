use Rattle.std.specs.Prelude.{Some}
use lib.Ieee.{of_bits}
use Rattle.numbers.specs.Notation.{ratio}
use mathlib.Core.Path.{refl, ap}
use Rattle.numbers.proofs.Choices.{taken, left}
use Rattle.exp_log.specs.ExpLog.{turn_of}
use Rattle.exp_log.proofs.turn_of.Goals as goal

pub returns-then-dot_of : goal.returns-then-dot_of
unfolding turn_of ratio of_bits
returns-then-dot_of c = taken _ (rw (← c.dot_of.ensures) c.if-dot_of.true) refl

pub returns : goal.returns
unfolding turn_of ratio of_bits
returns c = left _ (rw (← c.dot_of.ensures) c.if-dot_of.false) (ap Some c.turn_by.ensures)
