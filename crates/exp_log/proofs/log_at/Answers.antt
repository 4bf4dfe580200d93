use lib.Ieee.{of_bits}
use Rattle.numbers.specs.Notation.{ratio}
use Rattle.exp_log.specs.LogParts.{log_at}
use Rattle.exp_log.proofs.log_at.Goals as goal

pub returns : goal.returns
unfolding log_at ratio of_bits
returns c = rw c.bent_by.ensures
