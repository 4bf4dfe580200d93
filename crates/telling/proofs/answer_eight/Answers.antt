use mathlib.Core.Path.{sym, ap, ◌∙◌}
use Rattle.telling.specs.Telling.{answer_eight}
use Rattle.telling.proofs.answer_eight.Goals as goal

pub returns-in-Ok : goal.returns-in-Ok
returns-in-Ok c = c.joined_eight.ensures ∙ ap answer_eight (sym c.in-Ok.is)

pub returns-in-Err : goal.returns-in-Err
returns-in-Err c = c.refused_eight.ensures ∙ ap answer_eight (sym c.in-Err.is)
