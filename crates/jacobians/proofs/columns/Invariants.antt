use mathlib.Core.Path.{◌≡◌}
use Rattle.jacobians.proofs.Going.{columns_to}
use Rattle.numbers.specs.Walks.{done}
use Rattle.jacobians.specs.Cells.{cells_of}
use Rattle.jacobians.proofs.columns.Given as goal

abbrev pub invariant-loop-c : goal.invariant-loop-c
invariant-loop-c l = columns_to l.dof l.l l.end l.shift (cells_of l.known l.x) l.c ≡ done l.j
