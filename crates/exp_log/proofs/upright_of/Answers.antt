use mathlib.Core.Path.{refl}
use lib.Ieee.{of_bits}
use Rattle.numbers.specs.Notation.{ratio}
use Rattle.numbers.proofs.Choices.{taken, left}
use Rattle.exp_log.specs.ExpLog.{upright}
use Rattle.exp_log.proofs.upright_of.Goals as goal

pub returns-then-q : goal.returns-then-q
unfolding upright ratio of_bits
returns-then-q c = taken _ c.if-q.true refl

pub returns-else-q : goal.returns-else-q
unfolding upright ratio of_bits
returns-else-q c = left _ c.if-q.false refl
