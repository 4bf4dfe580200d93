use mathlib.Core.Path.{refl}
use lib.Ieee.{of_bits}
use Rattle.numbers.specs.Notation.{ratio}
use Rattle.exp_log.specs.ExpLog.{small_bend, series}
use Rattle.exp_log.proofs.small_bend.Goals as goal

pub returns : goal.returns
unfolding small_bend ratio of_bits series
returns c = refl
