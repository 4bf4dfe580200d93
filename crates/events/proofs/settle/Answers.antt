use Rattle.numbers.proofs.Choices.{taken, left}
use mathlib.Core.Path.{refl}
use Rattle.events.specs.Driven.{settled}
use Rattle.events.proofs.settle.Goals as goal

pub returns-in_default : goal.returns-in_default
unfolding settled
returns-in_default c = simp c.in_default.is

pub returns-then-fresh-at_limit : goal.returns-then-fresh-at_limit
unfolding settled
returns-then-fresh-at_limit c = simp c.in-On.is (taken _ (simp c.at_limit.ensures at c.if-fresh-at_limit.true) refl)

pub returns-else-fresh-at_limit : goal.returns-else-fresh-at_limit
unfolding settled
returns-else-fresh-at_limit c = simp c.in-On.is (left _ (simp c.at_limit.ensures at c.if-fresh-at_limit.false) refl)
