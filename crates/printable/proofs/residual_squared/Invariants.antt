-- `printable::residual_squared` meets its contract: the loop adds the six squares in order. Assumes nothing.
use lib.Ieee.{nan, binary64}
use mathlib.Core.Path.{◌≡◌}
use lib.ListN.{get_or}
use Rattle.numbers.specs.Notation.{◌⊗◌}
use Rattle.numbers.specs.Walks.{sum_of}
use Rattle.printable.proofs.residual_squared.Given as goal

abbrev pub invariant-loop-x : goal.invariant-loop-x
invariant-loop-x l = l.sum ≡ sum_of binary64 (λ k. get_or l.x-items k nan ⊗ get_or l.x-items k nan) l.x-index
