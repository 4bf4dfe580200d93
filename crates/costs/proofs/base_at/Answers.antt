use Rattle.costs.specs.Stowed.{base_in}
use Rattle.pose_conversion.specs.Conversions.{checked_transform}
use mathlib.Core.Path.{ap, ◌∙◌}
use Rattle.numbers.proofs.Choices.{taken, left}
use borrow.Author.Tests.{lt-ltb, le-ltb}
use Rattle.costs.proofs.base_at.Goals as goal

pub returns-then-x-count : goal.returns-then-x-count
unfolding base_in
returns-then-x-count c = taken _ (lt-ltb _ _ c.if-x-count.true) c.stowed.ensures

pub returns : goal.returns
unfolding base_in
returns c = left _ (le-ltb _ _ c.if-x-count.false) (c.checked_pose_to_se3.ensures ∙ ap checked_transform c.pose_at.ensures)
