-- `printable::add_residual` meets its contract: one that has a residual, and one that has none. Assumes nothing.
use Rattle.printable.proofs.add_residual.Goals as goal

pub returns-in-Ok : goal.returns-in-Ok
returns-in-Ok c = rw (c.residual_squared.ensures, c.in-Ok.is)

pub returns-in-Err : goal.returns-in-Err
returns-in-Err c = rw c.in-Err.is
