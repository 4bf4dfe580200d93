use Rattle.jacobians.specs.Jacobians.{slope_vec}
use Rattle.jacobians.proofs.slope_vec.Goals as goal

pub returns : goal.returns
unfolding slope_vec
returns c = rw (c.slope_of-3.ensures, c.slope_of-2.ensures, c.slope_of.ensures)
