use Rattle.numbers.proofs.Choices.{taken, left}
use Rattle.decisions.specs.Run.{accepting}
use Rattle.decisions.proofs.after_accepted.Goals as goal

pub returns-then-change-tolerance : goal.returns-then-change-tolerance
unfolding accepting
returns-then-change-tolerance c = taken _ (simp c.relative_cost_change-change.ensures at c.if-change-tolerance.true) (simp (c.decreased_damping.ensures, c.one_more.ensures, c.one_more-2.ensures))

pub returns-else-change-tolerance : goal.returns-else-change-tolerance
unfolding accepting
returns-else-change-tolerance c = left _ (simp c.relative_cost_change-change.ensures at c.if-change-tolerance.false) (simp (c.decreased_damping.ensures, c.one_more.ensures, c.one_more-2.ensures))
