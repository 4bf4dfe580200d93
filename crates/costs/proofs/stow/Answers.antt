use mathlib.Core.Path.{refl}
use borrow.Author.Tests.{lt-ltb, le-ltb}
use Rattle.numbers.proofs.Choices.{taken, left}
use Rattle.costs.specs.Stowed.{stowing}
use Rattle.costs.proofs.stow.Goals as goal

pub returns-then-e-l : goal.returns-then-e-l
unfolding stowing
returns-then-e-l c = taken _ (lt-ltb _ _ c.if-e-l.true) c.put_cell.ensures

pub returns-else-e-l : goal.returns-else-e-l
unfolding stowing
returns-else-e-l c = left _ (le-ltb _ _ c.if-e-l.false) refl
