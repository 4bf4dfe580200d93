use Rattle.std.specs.Prelude.{Ok}
use mathlib.Core.Path.{refl, sym, ap, ◌∙◌}
use Rattle.pose_conversion.proofs.Steps.{into, not_into}
use Rattle.residual.specs.EdgeParts.{undone_of}
use Rattle.numbers.proofs.Choices.{taken, left}
use Rattle.numbers.proofs.Finite.{finite_test}
use Rattle.numbers.proofs.Question.{handed_on}
use Rattle.residual.proofs.undone_of.Goals as goal

pub returns-then-not-finite : goal.returns-then-not-finite
unfolding undone_of
returns-then-not-finite c = left _ (sym (finite_test c.args.edge.weight c.is_finite-finite.ensures.value) ∙ c.if-not-finite.true) refl

pub returns : goal.returns
unfolding undone_of
returns c =
    taken _ (sym (finite_test c.args.edge.weight c.is_finite-finite.ensures.value) ∙ c.if-not-finite.false)
    (into _ _ _ (sym c.valid_se3.ensures ∙ c.in_ok-measured.was) (ap Ok c.inverse_of.ensures))

pub returns-in_err-measured : goal.returns-in_err-measured
unfolding undone_of
returns-in_err-measured c =
    taken _ (sym (finite_test c.args.edge.weight c.is_finite-finite.ensures.value) ∙ c.if-not-finite.false)
    (not_into _ _ _ (sym c.valid_se3.ensures ∙ c.in_err-measured.was) (handed_on _ c.from_residual.ensures.1))
