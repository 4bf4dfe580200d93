use Rattle.std.proofs.Common.{arith}
use Rattle.std.proofs.lemmas.Grind.{common_steps}
use lib.Ieee.{of_bits}
use Rattle.numbers.proofs.Finite.{same_finite}
use Rattle.numbers.specs.Notation.{ratio}
use Rattle.rows.specs.Tests.{bad_gravity}
use Rattle.rows.proofs.bad_gravity.Goals as goal

pub returns-in_default : goal.returns-in_default
unfolding bad_gravity
returns-in_default c = rw c.in_default.is

pub returns-then-not-is_finite : goal.returns-then-not-is_finite
unfolding bad_gravity ratio of_bits
returns-then-not-is_finite c = rw c.in-Gravity.is (grind (arith, common_steps, same_finite))

pub returns-else-not-is_finite : goal.returns-else-not-is_finite
unfolding bad_gravity ratio of_bits
returns-else-not-is_finite c = rw c.in-Gravity.is (grind (arith, common_steps, same_finite))
