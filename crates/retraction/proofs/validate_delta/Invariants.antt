use mathlib.Core.Path.{◌≡◌}
use lib.Ieee.Scale.{finite}
use Rattle.numbers.specs.Notation.{number_at}
use Rattle.numbers.specs.Walks.{every}
use Rattle.retraction.proofs.validate_delta.Given as goal

abbrev pub invariant-loop-j : goal.invariant-loop-j
invariant-loop-j l = l.good ≡ every (λ i. finite (number_at l.delta i)) l.j
