use Rattle.exp_log.specs.ExpLog.{moved_by}
use Rattle.exp_log.proofs.moved_by.Goals as goal

pub returns : goal.returns
unfolding moved_by
returns c = rw (c.finish.ensures, c.bent_by.ensures, c.bend_of-k.ensures)
