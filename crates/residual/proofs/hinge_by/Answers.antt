use Rattle.residual.specs.EdgeParts.{hinge_by}
use Rattle.residual.proofs.hinge_by.Goals as goal

pub returns : goal.returns
unfolding hinge_by
returns c = rw c.weigh_vec.ensures
