use mathlib.Core.Path.{refl}
use native.Mathlib.Numerals.{add-one}
use Rattle.numbers.specs.Walks.{every}
use Rattle.numbers.proofs.Finite.{finite_test}
use Rattle.retraction.proofs.validate_delta.Goals as goal

pub loop-j-init : goal.loop-j-init
unfolding every
loop-j-init c = refl

pub loop-j-preserved : goal.loop-j-preserved
unfolding every
loop-j-preserved c = rw (add-one, finite_test _ c.is_finite-good.ensures.value, c.loop-j.invariant)
