use mathlib.Core.Path.{refl}
use Rattle.numbers.proofs.Choices.{taken, left}
use Rattle.decisions.specs.Run.{judged}
use Rattle.decisions.proofs.judge.Goals as goal

pub returns-then-new-cost : goal.returns-then-new-cost
unfolding judged
returns-then-new-cost c = taken _ c.if-new-cost.true refl

pub returns-else-new-cost : goal.returns-else-new-cost
unfolding judged
returns-else-new-cost c = left _ c.if-new-cost.false refl
