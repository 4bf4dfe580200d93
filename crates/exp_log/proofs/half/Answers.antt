use Rattle.exp_log.specs.ExpLog.{halved}
use Rattle.exp_log.proofs.half.Goals as goal

pub returns : goal.returns
unfolding halved
returns c = rw (c.sqrt64.ensures, c.dot_of.ensures, c.axis_of-v.ensures)
