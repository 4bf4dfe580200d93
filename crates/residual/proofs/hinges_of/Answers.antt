use Rattle.exp_log.specs.LogParts.{log_turns}
use Rattle.residual.specs.EdgeParts.{hinge_of, hinges_of}
use Rattle.residual.proofs.hinges_of.Goals as goal

pub returns-in-A : goal.returns-in-A
unfolding hinges_of hinge_of log_turns
returns-in-A c =
    rw (
      c.hinge_by-in-A.ensures,
      c.matrix_of-in-A.ensures,
      c.hinge_by.ensures,
      c.matrix_of.ensures,
      c.log_turns-logs.ensures,
      c.error_quat-other.ensures,
      c.rounded_quat-in-A.ensures,
      c.error_quat-error.ensures,
      c.rounded_quat.ensures,
      c.conjugate_of-d.ensures,
      c.conjugate_of-c.ensures,
      c.in-A.is,
    )

pub returns-in-B : goal.returns-in-B
unfolding hinges_of hinge_of log_turns
returns-in-B c =
    rw (
      c.hinge_by-in-B-2.ensures,
      c.matrix_of-in-B-2.ensures,
      c.hinge_by-in-B.ensures,
      c.matrix_of-in-B.ensures,
      c.log_turns-logs-in-B.ensures,
      c.error_quat-other-in-B.ensures,
      c.error_quat-error-in-B.ensures,
      c.in-B.is,
    )
