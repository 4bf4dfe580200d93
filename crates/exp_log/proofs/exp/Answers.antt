use mathlib.Core.Path.{sym, ◌∙◌}
use Rattle.exp_log.proofs.Steps.{turned_by_lem, not_turned}
use Rattle.exp_log.specs.ExpLog.{exp_of}
use Rattle.exp_log.proofs.exp.Goals as goal

pub returns-in_err-turn_of : goal.returns-in_err-turn_of
unfolding exp_of
returns-in_err-turn_of c = not_turned _ (sym c.turn_of.ensures ∙ c.in_err-turn_of.was) c.from_residual.ensures

pub returns : goal.returns
unfolding exp_of
returns c =
    turned_by_lem _ _ c.in_ok-turn_of.field-0
    (sym c.turn_of.ensures ∙ c.in_ok-turn_of.was)
    (rw c.moved_by.ensures)
