use mathlib.Core.Path.{refl}
use borrow.Author.Tests.{lt-ltb, le-ltb}
use Rattle.numbers.proofs.Choices.{taken, left}
use Rattle.graph.specs.Lent.{slot_in}
use Rattle.graph.proofs.slot_at.Goals as goal

pub returns-then-b-free : goal.returns-then-b-free
unfolding slot_in
returns-then-b-free c = rw (← c.block_at-b.ensures) (taken _ (lt-ltb _ _ c.if-b-free.true) refl)

pub returns-else-b-free : goal.returns-else-b-free
unfolding slot_in
returns-else-b-free c = rw (← c.block_at-b.ensures) (left _ (le-ltb _ _ c.if-b-free.false) refl)
