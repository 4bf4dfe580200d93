use lib.Ieee.{neg, of_bits}
use Rattle.numbers.specs.Notation.{ratio, ratio32}
use Rattle.probes.specs.Stances.{probing_of}
use Rattle.probes.proofs.probing_of.Goals as goal

pub returns-in-Se3 : goal.returns-in-Se3
unfolding probing_of
returns-in-Se3 c = rw c.in-Se3.is

pub returns-in-Gravity : goal.returns-in-Gravity
unfolding probing_of ratio ratio32 of_bits neg
returns-in-Gravity c =
    rw (
      c.in-Gravity.is,
      c.turn_of-in-Gravity-2.ensures,
      c.scaled-in-Gravity-2.ensures,
      c.turn_of-in-Gravity.ensures,
      c.scaled-in-Gravity.ensures,
      c.turn_of.ensures,
      c.scaled.ensures,
      c.from-eps.ensures,
    )
