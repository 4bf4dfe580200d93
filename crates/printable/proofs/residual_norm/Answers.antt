-- `printable::residual_norm` meets its contract: the root of the squares, and a NaN where there is no residual. Assumes nothing.
use lib.Ieee.{of_bits, div}
use Rattle.printable.proofs.residual_norm.Goals as goal

pub returns-in-Ok : goal.returns-in-Ok
returns-in-Ok c = rw (c.sqrt64.ensures, c.residual_squared.ensures, c.in-Ok.is)

pub returns-in-Err : goal.returns-in-Err
unfolding of_bits div
returns-in-Err c = rw c.in-Err.is
