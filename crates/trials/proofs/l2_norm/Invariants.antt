use Rattle.std.proofs.Common.{◌≡◌, get_or}
use lib.Ieee.{nan, binary64}
use Rattle.numbers.specs.Notation.{◌⊗◌}
use Rattle.numbers.specs.Walks.{sum_of}
use Rattle.trials.proofs.l2_norm.Given as goal

abbrev pub invariant-loop-x : goal.invariant-loop-x
invariant-loop-x l = l.sum ≡ sum_of binary64 (λ k. get_or l.v k nan ⊗ get_or l.v k nan) l.x-index
