use Rattle.jacobians.proofs.SideBySide.{along_shift, along_turn}
use Rattle.jacobians.proofs.hinges_along.Goals as goal

pub returns-then-c-lt3 : goal.returns-then-c-lt3
returns-then-c-lt3 c = along_shift _ _ _ _ _ _ c.if-c-lt3.true

pub returns : goal.returns
returns c = along_turn _ _ _ _ _ _ c.if-c-lt3.false c.hinges_of.ensures
