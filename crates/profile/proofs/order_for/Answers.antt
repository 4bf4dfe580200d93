use mathlib.Core.Path.{refl, sym, ◌∙◌}
use Rattle.numbers.proofs.Choices.{taken, left}
use Rattle.profile.specs.Starts.{order_for}
use Rattle.profile.proofs.order_for.Goals as goal

pub returns-then-has_room : goal.returns-then-has_room
unfolding order_for
returns-then-has_room c = taken _ (sym c.has_room.ensures ∙ c.if-has_room.true) refl

pub returns-else-has_room : goal.returns-else-has_room
unfolding order_for
returns-else-has_room c = left _ (sym c.has_room.ensures ∙ c.if-has_room.false) refl
