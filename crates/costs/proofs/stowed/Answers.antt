use mathlib.Core.Path.{ap, ◌∙◌}
use Rattle.costs.specs.Stowed.{stowed_from}
use Rattle.costs.proofs.stowed.Goals as goal

pub returns : goal.returns
returns c = c.stowed_from.ensures ∙ ap stowed_from c.edge_at.ensures
