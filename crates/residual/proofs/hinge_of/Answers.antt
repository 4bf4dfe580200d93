use Rattle.residual.specs.EdgeParts.{hinge_of}
use Rattle.residual.proofs.hinge_of.Goals as goal

pub returns-in-A : goal.returns-in-A
unfolding hinge_of
returns-in-A c =
    rw (
      c.hinge_by.ensures,
      c.log_turn.ensures,
      c.matrix_of.ensures,
      c.error_quat-error.ensures,
      c.rounded_quat.ensures,
      c.conjugate_of-c.ensures,
      c.in-A.is,
    )

pub returns-in-B : goal.returns-in-B
unfolding hinge_of
returns-in-B c =
    rw (
      c.hinge_by-in-B.ensures,
      c.log_turn-in-B.ensures,
      c.matrix_of-in-B.ensures,
      c.error_quat-error-in-B.ensures,
      c.in-B.is,
    )
