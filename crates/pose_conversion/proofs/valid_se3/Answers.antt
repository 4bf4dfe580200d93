use mathlib.Core.Path.{refl, sym, ◌∙◌}
use Rattle.numbers.proofs.Choices.{taken, left}
use Rattle.pose_conversion.specs.Conversions.{valid_transform}
use Rattle.pose_conversion.proofs.valid_se3.Goals as goal

pub returns-then-validate_se3 : goal.returns-then-validate_se3
unfolding valid_transform
returns-then-validate_se3 c = taken _ (sym c.validate_se3.ensures ∙ c.if-validate_se3.true) refl

pub returns-else-validate_se3 : goal.returns-else-validate_se3
unfolding valid_transform
returns-else-validate_se3 c = left _ (sym c.validate_se3.ensures ∙ c.if-validate_se3.false) refl
