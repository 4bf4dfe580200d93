use mathlib.Core.Path.{refl, sym, ◌∙◌}
use Rattle.numbers.proofs.Choices.{taken, left}
use Rattle.pose_conversion.specs.Conversions.{checked_transform}
use Rattle.pose_conversion.proofs.checked_pose_to_se3.Goals as goal

pub returns-then-validate_pose : goal.returns-then-validate_pose
unfolding checked_transform
returns-then-validate_pose c =
    taken _ (sym c.validate_pose.ensures ∙ c.if-validate_pose.true)
    (rw (c.valid_se3.ensures, c.pose_to_se3.ensures))

pub returns-else-validate_pose : goal.returns-else-validate_pose
unfolding checked_transform
returns-else-validate_pose c = left _ (sym c.validate_pose.ensures ∙ c.if-validate_pose.false) refl
