use Rattle.jacobians.specs.Jacobians.{derivative}
use Rattle.jacobians.proofs.derivative_of.Goals as goal

pub returns : goal.returns
unfolding derivative
returns c = rw (c.six_if_finite.ensures, c.slope_vec-2.ensures, c.slope_vec.ensures)
