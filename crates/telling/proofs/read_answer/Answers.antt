use mathlib.Core.Path.{sym, ap, ◌∙◌}
use Rattle.telling.specs.Telling.{read_answer}
use Rattle.telling.proofs.read_answer.Goals as goal

pub returns-in-Ok : goal.returns-in-Ok
returns-in-Ok c = c.read_eight.ensures ∙ ap read_answer (sym c.in-Ok.is)

pub returns-in-Err : goal.returns-in-Err
returns-in-Err c = c.refused_eight.ensures ∙ ap read_answer (sym c.in-Err.is)
