use Rattle.exp_log.specs.ExpLog.{bent}
use Rattle.exp_log.proofs.bent_by.Goals as goal

pub returns : goal.returns
unfolding bent
returns c =
    rw (
      c.sum_of-2.ensures,
      c.scaled-2.ensures,
      c.cross_of.ensures,
      c.sum_of.ensures,
      c.scaled.ensures,
      c.cross_of-once.ensures,
    )
