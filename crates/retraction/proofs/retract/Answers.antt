use Rattle.retraction.specs.Retraction.{retract_of}
use Rattle.retraction.proofs.retract.Goals as goal

pub returns-in-Se3 : goal.returns-in-Se3
unfolding retract_of
returns-in-Se3 c = rw c.in-Se3.is c.retract_se3.ensures

pub returns-in-Gravity : goal.returns-in-Gravity
unfolding retract_of
returns-in-Gravity c = rw c.in-Gravity.is c.retract_gravity.ensures
