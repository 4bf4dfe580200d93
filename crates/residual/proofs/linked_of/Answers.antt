use mathlib.Core.Path.{◌∙◌}
use Rattle.numbers.proofs.Question.{handed_on}
use Rattle.residual.proofs.Linking.{no_measured, no_b, no_a, all_parts}
use Rattle.residual.proofs.linked_of.Goals as goal

pub returns-in_err-undone : goal.returns-in_err-undone
returns-in_err-undone c = handed_on _ c.from_residual.ensures.1 ∙ no_measured _ _ _ c.undone_of.ensures c.in_err-undone.was

pub returns-in_err-to : goal.returns-in_err-to
returns-in_err-to c = handed_on _ c.from_residual-in_err-to.ensures.1 ∙ no_b _ _ _ c.undone_of.ensures c.in_ok-undone.was c.in_err-to.was

pub returns-in_err-from : goal.returns-in_err-from
returns-in_err-from c =
    handed_on _ c.from_residual-in_err-from.ensures.1
    ∙ no_a _ _ _ c.undone_of.ensures c.in_ok-undone.was c.in_ok-to.was c.in_err-from.was

pub returns : goal.returns
returns c =
    all_parts _ _ _ c.undone_of.ensures c.in_ok-undone.was c.in_ok-to.was c.in_ok-from.was
    (rw (
      c.tie.ensures,
      c.matrix_of-2.ensures,
      c.matrix_of.ensures,
      c.widened.ensures,
      c.inverse_of.ensures,
      c.widened-u.ensures,
      c.widened-b.ensures,
    ))
