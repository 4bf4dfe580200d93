use mathlib.Core.Path.{refl}
use borrow.Author.Tests.{eq-eqb, ne_eqb}
use Rattle.numbers.proofs.Choices.{taken, left}
use Rattle.exports.proofs.manifold_of.Goals as goal

pub returns-then-dof-eq6 : goal.returns-then-dof-eq6
returns-then-dof-eq6 c = taken _ (eq-eqb _ _ c.if-dof-eq6.true) refl

pub returns : goal.returns
returns c = left _ (ne_eqb _ _ c.if-dof-eq6.false) refl
