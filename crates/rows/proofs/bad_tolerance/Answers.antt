use lib.Ieee.{of_bits}
use Rattle.numbers.proofs.Finite.{finite_test}
use Rattle.numbers.specs.Notation.{ratio}
use Rattle.rows.specs.Tests.{bad_tolerance}
use Rattle.rows.proofs.bad_tolerance.Goals as goal

pub returns-then-not-is_finite : goal.returns-then-not-is_finite
unfolding bad_tolerance ratio of_bits
returns-then-not-is_finite c = rw (← finite_test c.args.t c.is_finite.ensures.value, c.if-not-is_finite.true)

pub returns-else-not-is_finite : goal.returns-else-not-is_finite
unfolding bad_tolerance ratio of_bits
returns-else-not-is_finite c = rw (← finite_test c.args.t c.is_finite.ensures.value, c.if-not-is_finite.false)
