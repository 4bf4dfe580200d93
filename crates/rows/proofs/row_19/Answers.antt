use Rattle.std.proofs.Common.{arith}
use Rattle.std.proofs.lemmas.Grind.{common_steps}
use lib.Ieee.{of_bits}
use Rattle.numbers.proofs.Finite.{finite_test}
use Rattle.numbers.specs.Notation.{ratio, ratio32}
use Rattle.rows.specs.Tests.{bad_damping}
use Rattle.rows.proofs.row_19.Goals as goal

pub returns : goal.returns
unfolding bad_damping ratio ratio32 of_bits
returns c = rw (← finite_test c.args.d c.is_finite.ensures.value) (grind (arith, common_steps))
