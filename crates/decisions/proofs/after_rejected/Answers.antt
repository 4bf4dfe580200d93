use Rattle.numbers.proofs.Choices.{taken, left}
use lib.Ieee.{of_bits}
use Rattle.numbers.specs.Notation.{ratio32}
use Rattle.decisions.specs.Run.{rejecting}
use Rattle.decisions.proofs.after_rejected.Goals as goal

pub returns-then-damping : goal.returns-then-damping
unfolding rejecting ratio32 of_bits
returns-then-damping c = taken _ (simp c.increased_damping-damping.ensures at c.if-damping.true) (simp (c.increased_damping-damping.ensures, c.one_more.ensures, c.one_more-2.ensures))

pub returns-then-at_limit : goal.returns-then-at_limit
unfolding rejecting ratio32 of_bits
returns-then-at_limit c = left _ (simp c.increased_damping-damping.ensures at c.if-damping.false) (taken _ (simp (c.at_limit.ensures, c.one_more.ensures) at c.if-at_limit.true) (simp (c.increased_damping-damping.ensures, c.one_more.ensures, c.one_more-2.ensures)))

pub returns : goal.returns
unfolding rejecting ratio32 of_bits
returns c = left _ (simp c.increased_damping-damping.ensures at c.if-damping.false) (left _ (simp (c.at_limit.ensures, c.one_more.ensures) at c.if-at_limit.false) (simp (c.increased_damping-damping.ensures, c.one_more.ensures, c.one_more-2.ensures)))
