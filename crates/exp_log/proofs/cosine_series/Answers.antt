use mathlib.Core.Path.{refl}
use lib.Ieee.{of_bits}
use Rattle.numbers.specs.Notation.{ratio}
use Rattle.exp_log.specs.ExpLog.{cosine_series, series}
use Rattle.exp_log.proofs.cosine_series.Goals as goal

pub returns : goal.returns
unfolding cosine_series ratio of_bits series
returns c = refl
