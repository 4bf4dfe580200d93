use Rattle.residual.specs.EdgeParts.{carried}
use Rattle.residual.proofs.carry.Goals as goal

pub returns : goal.returns
unfolding carried
returns c = rw (c.rounded_vec.ensures, c.sum_of.ensures, c.turn_vec.ensures)
