use mathlib.Core.Path.{sym, ap}
use Rattle.sparse_pgo.specs.Parts.{has_converged}
use Rattle.sparse_pgo.proofs.has_converged.Goals as goal

pub returns-in-Budget : goal.returns-in-Budget
returns-in-Budget c = ap has_converged (sym c.in-Budget.is)

pub returns-in-Gradient : goal.returns-in-Gradient
returns-in-Gradient c = ap has_converged (sym c.in-Gradient.is)

pub returns-in-Step : goal.returns-in-Step
returns-in-Step c = ap has_converged (sym c.in-Step.is)

pub returns-in-Cost : goal.returns-in-Cost
returns-in-Cost c = ap has_converged (sym c.in-Cost.is)

pub returns-in-Damping : goal.returns-in-Damping
returns-in-Damping c = ap has_converged (sym c.in-Damping.is)
