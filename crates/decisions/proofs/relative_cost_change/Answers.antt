use mathlib.Core.Path.{refl}
use Rattle.numbers.proofs.Choices.{taken, left}
use lib.Ieee.{of_bits}
use Rattle.numbers.specs.Notation.{ratio}
use Rattle.decisions.specs.Run.{relative}
use Rattle.decisions.proofs.relative_cost_change.Goals as goal

pub returns-then-cost : goal.returns-then-cost
unfolding relative ratio of_bits
returns-then-cost c = taken _ c.if-cost.true refl

pub returns-else-cost : goal.returns-else-cost
unfolding relative ratio of_bits
returns-else-cost c = left _ c.if-cost.false refl
