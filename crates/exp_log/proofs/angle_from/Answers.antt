use lib.Ieee.{of_bits}
use Rattle.numbers.specs.Notation.{ratio}
use Rattle.exp_log.specs.LogParts.{angle_from}
use Rattle.exp_log.proofs.angle_from.Goals as goal

pub returns : goal.returns
unfolding angle_from ratio of_bits
returns c =
    rw (
      c.scaled-2.ensures,
      c.scaled.ensures,
      c.arc_series.ensures,
      c.dot_of.ensures,
      c.vec_over-a.ensures,
      c.axis_of.ensures,
    )
