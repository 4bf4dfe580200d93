use lib.Ieee.{of_bits}
use Rattle.numbers.specs.Notation.{ratio}
use Rattle.costs.proofs.Stowing.{stowed_had, stowed_not}
use Rattle.costs.proofs.stowed_from.Goals as goal

pub returns-then-cell : goal.returns-then-cell
unfolding ratio of_bits
returns-then-cell c = stowed_had _ c.if-cell.true

pub returns-else-cell : goal.returns-else-cell
unfolding ratio of_bits
returns-else-cell c = stowed_not _ c.if-cell.false
