use borrow.Author.Tests.{lt-ltb, le-ltb}
use Rattle.solve.specs.forms.Profile.{left_out}
use Rattle.profile.proofs.Zeros.{literal_zero}
use Rattle.solve.proofs.left_out.Goals as goal

pub returns-then-i-first_of : goal.returns-then-i-first_of
unfolding left_out
returns-then-i-first_of c = rw (← c.first_of.ensures, lt-ltb _ _ c.if-i-first_of.true, literal_zero)

pub returns-else-i-first_of : goal.returns-else-i-first_of
unfolding left_out
returns-else-i-first_of c = rw (← c.first_of.ensures, le-ltb _ _ c.if-i-first_of.false)
