use Rattle.numbers.proofs.Finite.{finite_test}
use Rattle.solve.specs.Rule.{serves}
use Rattle.profile.proofs.Zeros.{literal_zero}
use Rattle.solve.proofs.serves.Goals as goal

pub returns-then-p : goal.returns-then-p
unfolding serves
returns-then-p c = rw (← literal_zero, c.if-p.true) (finite_test _ c.is_finite.ensures.value)

pub returns-else-p : goal.returns-else-p
unfolding serves
returns-else-p c = rw (← literal_zero, c.if-p.false)
