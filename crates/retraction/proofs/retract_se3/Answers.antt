use mathlib.Core.Path.{refl, sym, ap, ◌∙◌}
use Rattle.std.specs.Prelude.{Err}
use Rattle.pose_conversion.proofs.Steps.{into, not_into}
use Rattle.retraction.specs.Retraction.{retract_se3}
use Rattle.exp_log.proofs.Steps.{moved_to, not_moved}
use Rattle.numbers.proofs.Question.{handed_on, option_some, option_none}
use Rattle.numbers.proofs.Steps.{passed, turned_away}
use Rattle.retraction.proofs.retract_se3.Goals as goal

pub returns-then-not-validate_delta : goal.returns-then-not-validate_delta
unfolding retract_se3
returns-then-not-validate_delta c = turned_away _ c.validate_delta.ensures c.if-not-validate_delta.true-raw refl

pub returns-in_err-a : goal.returns-in_err-a
unfolding retract_se3
returns-in_err-a c =
    passed _ c.validate_delta.ensures c.if-not-validate_delta.false-raw
    (not_into _ _ _ (sym c.checked_pose_to_se3.ensures ∙ c.in_err-a.was) (handed_on _ c.from_residual.ensures.1))

pub returns-in_err-e : goal.returns-in_err-e
unfolding retract_se3
returns-in_err-e c =
    let n = option_none _ c.ok_or.ensures.value c.in_err-e.was in
    passed _ c.validate_delta.ensures c.if-not-validate_delta.false-raw
    (into _ _ _ (sym c.checked_pose_to_se3.ensures ∙ c.in_ok-a.was)
    (not_moved _ (rw (← c.three_from-2.ensures, ← c.three_from.ensures) (sym c.exp-moved.ensures ∙ n.0))
    (handed_on _ c.from_residual-in_err-e.ensures.1 ∙ ap Err n.1)))

pub returns : goal.returns
unfolding retract_se3
returns c =
    passed _ c.validate_delta.ensures c.if-not-validate_delta.false-raw
    (into _ _ _ (sym c.checked_pose_to_se3.ensures ∙ c.in_ok-a.was)
    (moved_to _ _ c.in_ok-e.e
    (rw (← c.three_from-2.ensures, ← c.three_from.ensures) (sym c.exp-moved.ensures ∙ option_some _ c.ok_or.ensures.ok_part c.in_ok-e.was))
    (rw (← c.product_of.ensures) c.checked_se3_to_pose.ensures)))
