use mathlib.Core.Path.{◌≡◌}
use Rattle.numbers.specs.Walks.{each, done}
use Rattle.costs.specs.Costs.{square_step}
use Rattle.costs.proofs.add_squares.Given as goal

abbrev pub invariant-loop-j : goal.invariant-loop-j
invariant-loop-j l = each (square_step l.six) l.j l.c ≡ done l.sum
