use mathlib.Core.Path.{◌≡◌}
use native.Mathlib.Omega.{arith}
use lib.Ieee.{nan, of_bits}
use Rattle.numbers.specs.Notation.{num, ratio}
use Rattle.trials.specs.Trials.{part_of}
use Rattle.numbers.proofs.Laying.{laid_upto}
use Rattle.trials.proofs.delta_of.Goals as goal

pub returns : goal.returns
unfolding part_of ratio of_bits
returns c =
    let e : c.loop-j.j ≡ c.args.dof = omega arith in
    laid_upto nan (num 0) 6 _ c.loop-j.invariant e
