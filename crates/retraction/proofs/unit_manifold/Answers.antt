use Rattle.retraction.specs.Retraction.{unit_of}
use Rattle.retraction.proofs.unit_manifold.Goals as goal

pub returns-in-Se3 : goal.returns-in-Se3
unfolding unit_of
returns-in-Se3 c = rw c.in-Se3.is

pub returns-in-Gravity : goal.returns-in-Gravity
unfolding unit_of
returns-in-Gravity c = rw (c.unit_vec.ensures, c.in-Gravity.is)
