use mathlib.Core.Path.{sym, ap}
use Rattle.telling.specs.Telling.{stop_number}
use Rattle.telling.proofs.stop_number.Goals as goal

pub returns-in-Budget : goal.returns-in-Budget
returns-in-Budget c = ap stop_number (sym c.in-Budget.is)

pub returns-in-Gradient : goal.returns-in-Gradient
returns-in-Gradient c = ap stop_number (sym c.in-Gradient.is)

pub returns-in-Step : goal.returns-in-Step
returns-in-Step c = ap stop_number (sym c.in-Step.is)

pub returns-in-Cost : goal.returns-in-Cost
returns-in-Cost c = ap stop_number (sym c.in-Cost.is)

pub returns-in-Damping : goal.returns-in-Damping
returns-in-Damping c = ap stop_number (sym c.in-Damping.is)
