-- `numbers::must_be_finite` meets its contract: std's test is that of the definition. Assumes nothing.
use Rattle.std.proofs.Common.{sym, refl, ◌∙◌}
use Rattle.numbers.specs.Walks.{must_be_finite}
use Rattle.numbers.proofs.Choices.{taken, left}
use Rattle.numbers.proofs.Finite.{finite_test}
use Rattle.numbers.proofs.must_be_finite.Goals as goal

pub returns-then-finite : goal.returns-then-finite
unfolding must_be_finite
returns-then-finite c = taken _ (sym (finite_test c.args.x c.is_finite-finite.ensures.value) ∙ c.if-finite.true) refl

pub returns-else-finite : goal.returns-else-finite
unfolding must_be_finite
returns-else-finite c = left _ (sym (finite_test c.args.x c.is_finite-finite.ensures.value) ∙ c.if-finite.false) refl
