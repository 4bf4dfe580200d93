use lib.Ieee.{of_bits}
use Rattle.numbers.specs.Notation.{ratio}
use Rattle.exp_log.specs.ExpLog.{turn_by}
use Rattle.exp_log.proofs.turn_by.Goals as goal

pub returns : goal.returns
unfolding turn_by ratio of_bits
returns c =
    rw (
      c.seven_times.ensures,
      c.cosine_series.ensures,
      c.scaled-v.ensures,
      c.sine_series.ensures,
      c.dot_of-t.ensures,
      c.vec_over-h.ensures,
    )
