use lib.Ieee.{of_bits}
use Rattle.numbers.specs.Notation.{ratio}
use Rattle.numbers.proofs.Choices.{taken, left}
use Rattle.rotations.specs.FromMatrix.{quat_of_matrix, by_rule}
use Rattle.rotations.proofs.quat_of_matrix.Goals as goal

pub returns-then-d : goal.returns-then-d
unfolding quat_of_matrix by_rule ratio of_bits
returns-then-d c = taken _ c.if-m.true (taken _ c.if-d.true c.halved_by.ensures)

pub returns-then-m : goal.returns-then-m
unfolding quat_of_matrix by_rule ratio of_bits
returns-then-m c = taken _ c.if-m.true (left _ c.if-d.false c.halved_by-then-m.ensures)

pub returns-then-s : goal.returns-then-s
unfolding quat_of_matrix by_rule ratio of_bits
returns-then-s c = left _ c.if-m.false (taken _ c.if-s.true c.halved_by-then-s.ensures)

pub returns : goal.returns
unfolding quat_of_matrix by_rule ratio of_bits
returns c = left _ c.if-m.false (left _ c.if-s.false c.halved_by-2.ensures)
