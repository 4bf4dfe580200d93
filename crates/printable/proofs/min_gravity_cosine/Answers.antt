-- `printable::min_gravity_cosine` meets its contract: 1 without gravity, else the smallest of the cosines. Assumes nothing.
use lib.Ieee.{of_bits}
use Rattle.numbers.specs.Notation.{ratio}
use Rattle.printable.specs.Measures.{cosine_of}
use Rattle.printable.proofs.min_gravity_cosine.Goals as goal

pub returns-in-Se3 : goal.returns-in-Se3
unfolding cosine_of ratio of_bits
returns-in-Se3 c = rw c.in-Se3.is

pub returns-in-Gravity : goal.returns-in-Gravity
unfolding cosine_of
returns-in-Gravity c = rw (c.smallest_cosine.ensures, c.unit_vec.ensures, c.in-Gravity.is)
