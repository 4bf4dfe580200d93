use mathlib.Core.Path.{refl}
use borrow.Author.Tests.{lt-ltb, le-ltb}
use Rattle.numbers.proofs.Choices.{taken, left}
use Rattle.probes.specs.Stances.{swings_at}
use Rattle.probes.proofs.swings_at.Goals as goal

pub returns-then-shifts : goal.returns-then-shifts
unfolding swings_at
returns-then-shifts c = taken _ (lt-ltb _ _ c.if-shifts.true) refl

pub returns-else-shifts : goal.returns-else-shifts
unfolding swings_at
returns-else-shifts c = left _ (le-ltb _ _ c.if-shifts.false) c.swings_by.ensures
