use Rattle.exp_log.specs.ExpLog.{narrowed_twist}
use Rattle.exp_log.proofs.narrow_twist.Goals as goal

pub returns : goal.returns
unfolding narrowed_twist
returns c =
    rw (
      c.narrow-6.ensures,
      c.narrow-5.ensures,
      c.narrow-4.ensures,
      c.narrow-3.ensures,
      c.narrow-2.ensures,
      c.narrow.ensures,
    )
