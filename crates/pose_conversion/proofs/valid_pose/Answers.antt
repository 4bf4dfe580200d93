use mathlib.Core.Path.{refl, sym, ◌∙◌}
use Rattle.numbers.proofs.Choices.{taken, left}
use Rattle.pose_conversion.specs.Conversions.{valid_pose}
use Rattle.pose_conversion.proofs.valid_pose.Goals as goal

pub returns-then-validate_pose : goal.returns-then-validate_pose
unfolding valid_pose
returns-then-validate_pose c = taken _ (sym c.validate_pose.ensures ∙ c.if-validate_pose.true) refl

pub returns-else-validate_pose : goal.returns-else-validate_pose
unfolding valid_pose
returns-else-validate_pose c = left _ (sym c.validate_pose.ensures ∙ c.if-validate_pose.false) refl
