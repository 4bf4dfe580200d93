use mathlib.Core.Path.{sym, ◌∙◌}
use Rattle.numbers.proofs.Question.{handed_on}
use Rattle.jacobians.proofs.SideBySide.{by_no_ahead, by_lost_ahead, by_no_behind, by_lost_behind, by_had}
use Rattle.jacobians.proofs.column_by.Goals as goal

pub returns-in_err-stowed_from : goal.returns-in_err-stowed_from
returns-in_err-stowed_from c =
    handed_on _ c.from_residual.ensures.1 ∙ by_no_ahead _ _ _ _ (sym c.stowed_from.ensures ∙ c.in_err-stowed_from.was)

pub returns-in_err-p : goal.returns-in_err-p
returns-in_err-p c =
    handed_on _ c.from_residual-in_err-p.ensures.1
    ∙ by_lost_ahead _ _ _ _ (sym c.stowed_from.ensures ∙ c.in_ok-stowed_from.was) c.in_err-p.was

pub returns-in_err-stowed_from-2 : goal.returns-in_err-stowed_from-2
returns-in_err-stowed_from-2 c =
    handed_on _ c.from_residual-in_err-stowed_from-2.ensures.1
    ∙ by_no_behind _ _ _ _ (sym c.stowed_from.ensures ∙ c.in_ok-stowed_from.was)
    c.in_ok-p.was (sym c.stowed_from-2.ensures ∙ c.in_err-stowed_from-2.was)

pub returns-in_err-q : goal.returns-in_err-q
returns-in_err-q c =
    handed_on _ c.from_residual-in_err-q.ensures.1
    ∙ by_lost_behind _ _ _ _ (sym c.stowed_from.ensures ∙ c.in_ok-stowed_from.was)
    c.in_ok-p.was (sym c.stowed_from-2.ensures ∙ c.in_ok-stowed_from-2.was) c.in_err-q.was

pub returns : goal.returns
returns c =
    by_had _ _ _ _ (sym c.stowed_from.ensures ∙ c.in_ok-stowed_from.was)
    c.in_ok-p.was (sym c.stowed_from-2.ensures ∙ c.in_ok-stowed_from-2.was)
    c.in_ok-q.was c.derivative_of.ensures
