use Rattle.numbers.proofs.Finite.{finite_test}
-- `printable::metrics_finite` meets its contract: the code is the definition. Assumes nothing.
use Rattle.printable.proofs.metrics_finite.Goals as goal

pub returns : goal.returns
returns c =
    rw (
      finite_test _ c.is_finite-4.ensures.value,
      finite_test _ c.is_finite-3.ensures.value,
      finite_test _ c.is_finite-2.ensures.value,
      finite_test _ c.is_finite.ensures.value,
    )
