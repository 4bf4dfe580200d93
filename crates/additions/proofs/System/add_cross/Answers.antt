use borrow.Author.Tests.{lt-ltb, le-ltb}
use Rattle.numbers.proofs.Choices.{taken, left}
use Rattle.additions.specs.Additions.{cross_added}
use Rattle.additions.proofs.System.add_cross.Goals as goal

pub returns-then-ba-bb-clause-value : goal.returns-then-ba-bb-clause-value
unfolding cross_added
returns-then-ba-bb-clause-value c = taken _ (lt-ltb _ _ c.if-ba-bb.true) c.accumulate_hessian.ensures.value

pub returns-clause-value : goal.returns-clause-value
unfolding cross_added
returns-clause-value c = left _ (le-ltb _ _ c.if-ba-bb.false) c.accumulate_hessian-2.ensures.value
