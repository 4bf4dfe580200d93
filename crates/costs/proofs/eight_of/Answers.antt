use Rattle.numbers.specs.Notation.{ratio}
use lib.Ieee.{of_bits}
use Rattle.costs.proofs.eight_of.Goals as goal

pub returns-in-Ok : goal.returns-in-Ok
unfolding ratio of_bits
returns-in-Ok c = rw c.in-Ok.is

pub returns-in-Err : goal.returns-in-Err
unfolding ratio of_bits
returns-in-Err c = rw c.in-Err.is
