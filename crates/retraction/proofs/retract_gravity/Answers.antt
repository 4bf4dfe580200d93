use mathlib.Core.Path.{◌≡◌, refl, sym, ap, ◌∙◌}
use mathlib.Core.Bool.{◌&&◌}
use lib.Ieee.{Float, neg}
use lib.Ieee.Scale.{finite}
use Rattle.numbers.specs.Notation.{number_at}
use Rattle.numbers.specs.Walks.{every}
use Rattle.rotations.specs.Rotation.{times}
use Rattle.exp_log.specs.ExpLog.{turn_of}
use Rattle.pose_conversion.specs.Conversions.{finite_pose}
use Rattle.retraction.specs.Retraction.{retract_gravity}
use Rattle.exp_log.proofs.Steps.{turned_by_lem, not_turned}
use Rattle.std.specs.Prelude.{Err}
use Rattle.numbers.proofs.Question.{handed_on, option_some, option_none}
use Rattle.numbers.proofs.Steps.{both, passed, turned_away}
use Rattle.retraction.proofs.retract_gravity.Goals as goal

pub returns-then-not-validate_pose-validate_delta : goal.returns-then-not-validate_pose-validate_delta
unfolding retract_gravity
returns-then-not-validate_pose-validate_delta c =
    let tested : (let a = c.args in (c.validate_pose.result && c.validate_delta.result) ≡ (finite_pose a.p && every (λ j. finite (number_at a.delta j)) 4)) = both c.validate_pose.ensures c.validate_delta.ensures in
    turned_away _ (tested) c.if-not-validate_pose-validate_delta.true-raw refl

pub returns-in_err-q : goal.returns-in_err-q
unfolding retract_gravity
returns-in_err-q c =
    let tested : (let a = c.args in (c.validate_pose.result && c.validate_delta.result) ≡ (finite_pose a.p && every (λ j. finite (number_at a.delta j)) 4)) = both c.validate_pose.ensures c.validate_delta.ensures in
    let turn : (let a = c.args in c.turn_of-turned.result ≡ turn_of (times (neg (number_at a.delta 3)) a.g)) = let g = c.args.g in
    let w : c.scaled.result ≡ times (neg c.from-yaw.result) g = c.scaled.ensures in
    c.turn_of-turned.ensures ∙ ap turn_of (w ∙ ap (λ (x : Float). times (neg x) g) c.from-yaw.ensures) in
    let n = option_none _ c.ok_or.ensures.value c.in_err-q.was in
    passed _ (tested) c.if-not-validate_pose-validate_delta.false-raw
    (not_turned _ (sym (turn) ∙ n.0) (handed_on _ c.from_residual.ensures.1 ∙ ap Err n.1))

pub returns : goal.returns
unfolding retract_gravity
returns c =
    let tested : (let a = c.args in (c.validate_pose.result && c.validate_delta.result) ≡ (finite_pose a.p && every (λ j. finite (number_at a.delta j)) 4)) = both c.validate_pose.ensures c.validate_delta.ensures in
    let turn : (let a = c.args in c.turn_of-turned.result ≡ turn_of (times (neg (number_at a.delta 3)) a.g)) = let g = c.args.g in
    let w : c.scaled.result ≡ times (neg c.from-yaw.result) g = c.scaled.ensures in
    c.turn_of-turned.ensures ∙ ap turn_of (w ∙ ap (λ (x : Float). times (neg x) g) c.from-yaw.ensures) in
    passed _ (tested) c.if-not-validate_pose-validate_delta.false-raw
    (turned_by_lem _ _ c.in_ok-q.q (sym (turn) ∙ option_some _ c.ok_or.ensures.ok_part c.in_ok-q.was)
    (rw (← c.centre_of.ensures, ← c.turned_pose.ensures) c.valid_pose.ensures))
