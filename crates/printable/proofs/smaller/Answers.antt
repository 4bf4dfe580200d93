-- `printable::smaller` meets its contract: the two cases of its test. Assumes nothing.
use mathlib.Core.Path.{refl}
use Rattle.numbers.proofs.Choices.{taken, left}
use Rattle.printable.proofs.smaller.Goals as goal

pub returns-then-cosine-least : goal.returns-then-cosine-least
returns-then-cosine-least c = taken _ c.if-cosine-least.true refl

pub returns-else-cosine-least : goal.returns-else-cosine-least
returns-else-cosine-least c = left _ c.if-cosine-least.false refl
