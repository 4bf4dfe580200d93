-- `printable::may_be_printed` meets its contract: each return is the first test that fails, or that none does. Assumes nothing.
use mathlib.Core.Path.{refl, sym, ap, ◌∙◌}
use mathlib.Core.Bool.{not}
use lib.Ieee.{of_bits}
use Rattle.numbers.specs.Notation.{ratio}
use Rattle.numbers.proofs.Choices.{taken, left}
use Rattle.printable.specs.Printing.{printing}
use Rattle.printable.proofs.may_be_printed.Goals as goal

pub returns-then-not-metrics_finite : goal.returns-then-not-metrics_finite
unfolding printing
returns-then-not-metrics_finite c = taken _ (ap not (sym c.metrics_finite.ensures) ∙ c.if-not-metrics_finite.true-raw) refl

pub returns-then-not-converged : goal.returns-then-not-converged
unfolding printing
returns-then-not-converged c = left _ (ap not (sym c.metrics_finite.ensures) ∙ c.if-not-metrics_finite.false-raw) (taken _ c.if-not-converged.true-raw refl)

pub returns-then-cosine : goal.returns-then-cosine
unfolding printing ratio of_bits
returns-then-cosine c =
    left _ (ap not (sym c.metrics_finite.ensures) ∙ c.if-not-metrics_finite.false-raw)
    (left _ c.if-not-converged.false-raw
    (taken _ c.if-cosine.true refl))

pub returns-then-not-m : goal.returns-then-not-m
unfolding printing ratio of_bits
returns-then-not-m c =
    left _ (ap not (sym c.metrics_finite.ensures) ∙ c.if-not-metrics_finite.false-raw)
    (left _ c.if-not-converged.false-raw
    (left _ c.if-cosine.false
    (taken _ c.if-not-m.true-raw refl)))

pub returns-then-not-m-2 : goal.returns-then-not-m-2
unfolding printing ratio of_bits
returns-then-not-m-2 c =
    left _ (ap not (sym c.metrics_finite.ensures) ∙ c.if-not-metrics_finite.false-raw)
    (left _ c.if-not-converged.false-raw
    (left _ c.if-cosine.false
    (left _ c.if-not-m.false-raw
    (taken _ c.if-not-m-2.true-raw refl))))

pub returns : goal.returns
unfolding printing ratio of_bits
returns c =
    left _ (ap not (sym c.metrics_finite.ensures) ∙ c.if-not-metrics_finite.false-raw)
    (left _ c.if-not-converged.false-raw
    (left _ c.if-cosine.false
    (left _ c.if-not-m.false-raw
    (left _ c.if-not-m-2.false-raw refl))))
