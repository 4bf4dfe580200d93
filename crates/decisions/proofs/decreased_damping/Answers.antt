use mathlib.Core.Path.{refl}
use Rattle.numbers.proofs.Choices.{taken, left}
use lib.Ieee.{of_bits}
use Rattle.numbers.specs.Notation.{ratio, ratio32}
use Rattle.decisions.specs.Damping.{decreased}
use Rattle.decisions.proofs.decreased_damping.Goals as goal

pub returns-then-q : goal.returns-then-q
unfolding decreased ratio ratio32 of_bits
returns-then-q c = taken _ c.if-q.true refl

pub returns-else-q : goal.returns-else-q
unfolding decreased ratio ratio32 of_bits
returns-else-q c = left _ c.if-q.false refl
