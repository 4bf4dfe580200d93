-- `printable::last_residual_norm` meets its contract: each step is the definition. Assumes nothing.
use Rattle.printable.specs.Measures.{last_residual}
use Rattle.printable.proofs.last_residual_norm.Goals as goal

pub returns : goal.returns
unfolding last_residual
returns c = rw (c.residual_norm.ensures, c.weighted_edge_residual.ensures, c.saturating_sub-k.ensures)
