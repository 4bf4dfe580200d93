use Rattle.exp_log.specs.ExpLog.{log_of}
use Rattle.exp_log.proofs.log.Goals as goal

pub returns : goal.returns
unfolding log_of
returns c = rw (c.narrow_twist.ensures, c.log_wide.ensures)
