use mathlib.Core.Path.{sym, ◌∙◌}
use Rattle.solve.specs.forms.Profile.{next_below}
use Rattle.solve.proofs.System.next_below.Goals as goal

pub returns-then-left_out : goal.returns-then-left_out
unfolding next_below
returns-then-left_out c = rw (sym c.left_out.ensures ∙ c.if-left_out.true)

pub returns : goal.returns
unfolding next_below
returns c = rw (sym c.left_out.ensures ∙ c.if-left_out.false, c.requires.2)
