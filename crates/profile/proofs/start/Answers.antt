use mathlib.Core.Path.{sym, ◌∙◌}
use Rattle.profile.specs.Starts.{start_at}
use Rattle.profile.proofs.start.Goals as goal

pub returns-then-minus_zero : goal.returns-then-minus_zero
unfolding start_at
returns-then-minus_zero c = rw (sym c.minus_zero.ensures ∙ c.if-minus_zero.true)

pub returns : goal.returns
unfolding start_at
returns c = rw (sym c.minus_zero.ensures ∙ c.if-minus_zero.false) c.max.ensures
