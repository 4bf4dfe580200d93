use mathlib.Core.Path.{refl}
use Rattle.numbers.proofs.Choices.{taken, left}
use Rattle.events.specs.Driven.{after_event}
use Rattle.events.proofs.after_event.Goals as goal

pub returns-in_default : goal.returns-in_default
unfolding after_event
returns-in_default c = simp c.in_default.is

pub returns-then-fresh : goal.returns-then-fresh
unfolding after_event
returns-then-fresh c = simp (c.turn.ensures, c.in-On.is, c.in-Assembled.is) (taken _ c.if-fresh.true refl)

pub returns-else-fresh : goal.returns-else-fresh
unfolding after_event
returns-else-fresh c = simp (c.in-On.is, c.in-Assembled.is) (left _ c.if-fresh.false refl)

pub returns-in-Solved : goal.returns-in-Solved
unfolding after_event
returns-in-Solved c = simp (c.turn-in-Solved.ensures, c.in-On.is, c.in-Solved.is)
