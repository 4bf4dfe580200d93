use mathlib.Core.Path.{refl}
use borrow.Author.Tests.{lt-ltb, le-ltb}
use Rattle.numbers.proofs.Choices.{taken, left}
use Rattle.checks.proofs.mark.Goals as goal

pub returns-then-x-lt256 : goal.returns-then-x-lt256
returns-then-x-lt256 c = taken _ (lt-ltb _ _ c.if-x-lt256.true) refl

pub returns-else-x-lt256 : goal.returns-else-x-lt256
returns-else-x-lt256 c = left _ (le-ltb _ _ c.if-x-lt256.false) refl
