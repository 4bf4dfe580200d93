use mathlib.Core.Path.{refl, sym, ◌∙◌}
use Rattle.numbers.proofs.Choices.{taken, left}
use Rattle.probes.specs.Stances.{swing_of}
use Rattle.probes.proofs.swing_of.Goals as goal

pub returns-then-finite_matrix : goal.returns-then-finite_matrix
unfolding swing_of
returns-then-finite_matrix c = taken _ (sym c.finite_matrix.ensures ∙ c.if-finite_matrix.true) refl

pub returns-else-finite_matrix : goal.returns-else-finite_matrix
unfolding swing_of
returns-else-finite_matrix c = left _ (sym c.finite_matrix.ensures ∙ c.if-finite_matrix.false) refl
