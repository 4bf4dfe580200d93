use mathlib.Core.Path.{sym, ap}
use Rattle.telling.specs.Telling.{written_number}
use Rattle.telling.proofs.written_number.Goals as goal

pub returns-in-Ok : goal.returns-in-Ok
returns-in-Ok c = ap written_number (sym c.in-Ok.is)

pub returns-in-Err : goal.returns-in-Err
returns-in-Err c = ap written_number (sym c.in-Err.is)
