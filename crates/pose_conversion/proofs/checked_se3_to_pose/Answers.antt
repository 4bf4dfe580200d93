use mathlib.Core.Path.{refl, sym, ◌∙◌}
use Rattle.numbers.proofs.Choices.{taken, left}
use Rattle.pose_conversion.specs.Conversions.{checked_pose}
use Rattle.pose_conversion.proofs.checked_se3_to_pose.Goals as goal

pub returns-then-validate_se3 : goal.returns-then-validate_se3
unfolding checked_pose
returns-then-validate_se3 c =
    taken _ (sym c.validate_se3.ensures ∙ c.if-validate_se3.true)
    (rw (c.valid_pose.ensures, c.se3_to_pose.ensures))

pub returns-else-validate_se3 : goal.returns-else-validate_se3
unfolding checked_pose
returns-else-validate_se3 c = left _ (sym c.validate_se3.ensures ∙ c.if-validate_se3.false) refl
