use mathlib.Core.Path.{◌∙◌}
use Rattle.jacobians.proofs.Going.{few_cells, no_cells, has_cells}
use Rattle.jacobians.proofs.first_probe.Goals as goal

pub returns-then-known-lt26624 : goal.returns-then-known-lt26624
returns-then-known-lt26624 c = few_cells _ _ c.if-known-lt26624.true

pub returns-then-x-ge256 : goal.returns-then-x-ge256
returns-then-x-ge256 c = no_cells _ _ c.if-known-lt26624.false c.if-x-ge256.true

pub returns : goal.returns
returns c = c.stowed.ensures ∙ has_cells _ _ c.if-known-lt26624.false c.if-x-ge256.false
