use Rattle.numbers.proofs.Choices.{taken, left}
use mathlib.Core.Path.{refl, sym, ◌∙◌}
use Rattle.decisions.specs.Run.{passed}
use Rattle.decisions.proofs.pass_top.Goals as goal

pub returns-then-at_limit : goal.returns-then-at_limit
unfolding passed
returns-then-at_limit c = taken _ c.if-due.true (taken _ (sym c.at_limit.ensures ∙ c.if-at_limit.true) refl)

pub returns-else-at_limit : goal.returns-else-at_limit
unfolding passed
returns-else-at_limit c = taken _ c.if-due.true (left _ (sym c.at_limit.ensures ∙ c.if-at_limit.false) c.gate_of.ensures)

pub returns-else-due : goal.returns-else-due
unfolding passed
returns-else-due c = left _ c.if-due.false refl
