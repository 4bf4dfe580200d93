use Rattle.numbers.proofs.Choices.{taken, left}
use lib.Ieee.{of_bits}
use Rattle.numbers.specs.Notation.{ratio32}
use Rattle.decisions.specs.Run.{failing}
use Rattle.decisions.proofs.after_failed_solve.Goals as goal

pub returns-then-damping : goal.returns-then-damping
unfolding failing ratio32 of_bits
returns-then-damping c = taken _ (simp c.increased_damping-damping.ensures at c.if-damping.true) (simp (c.increased_damping-damping.ensures, c.one_more.ensures, c.one_more-2.ensures))

pub returns-else-damping : goal.returns-else-damping
unfolding failing ratio32 of_bits
returns-else-damping c = left _ (simp c.increased_damping-damping.ensures at c.if-damping.false) (simp (c.increased_damping-damping.ensures, c.one_more.ensures, c.one_more-2.ensures))
