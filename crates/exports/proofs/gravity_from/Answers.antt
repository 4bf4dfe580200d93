use mathlib.Core.Path.{refl, ap}
use borrow.Author.Tests.{eq-eqb, ne_eqb}
use Rattle.graph.specs.declared.Manifold.TheVariants.{Gravity}
use Rattle.numbers.proofs.Choices.{taken, left}
use Rattle.exports.specs.Closings.{gravity_of}
use Rattle.exports.proofs.gravity_from.Goals as goal

pub returns-then-g-eq0 : goal.returns-then-g-eq0
unfolding gravity_of
returns-then-g-eq0 c = taken _ (eq-eqb _ _ c.if-g-eq0.true) refl

pub returns : goal.returns
unfolding gravity_of
returns c = left _ (ne_eqb _ _ c.if-g-eq0.false) (ap Gravity c.vec_from.ensures)
