use mathlib.Core.Path.{sym, ap}
use Rattle.telling.specs.Telling.{read_number}
use Rattle.telling.proofs.read_number.Goals as goal

pub returns-in-Ok : goal.returns-in-Ok
returns-in-Ok c = ap read_number (sym c.in-Ok.is)

pub returns-in-Err : goal.returns-in-Err
returns-in-Err c = ap read_number (sym c.in-Err.is)
