use mathlib.Core.Path.{refl}
use lib.Ieee.{of_bits}
use Rattle.numbers.specs.Notation.{ratio}
use Rattle.exp_log.specs.ExpLog.{arc_series, series}
use Rattle.exp_log.proofs.arc_series.Goals as goal

pub returns : goal.returns
unfolding arc_series ratio of_bits series
returns c = refl
