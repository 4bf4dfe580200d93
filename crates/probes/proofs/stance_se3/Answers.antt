use Rattle.pose_conversion.proofs.Steps.{into, not_into}
use Rattle.numbers.proofs.Question.{handed_on}
use Rattle.probes.specs.Stances.{stance_se3}
use Rattle.probes.proofs.stance_se3.Goals as goal

pub returns-in_err-base : goal.returns-in_err-base
unfolding stance_se3
returns-in_err-base c = not_into _ _ _ c.in_err-base.was (handed_on _ c.from_residual.ensures.1)

pub returns : goal.returns
unfolding stance_se3
returns c =
    into _ _ _ c.in_ok-base.was
    (rw (c.swing_by.ensures, c.step_quat.ensures, c.matrix_of.ensures, c.widened-at.ensures))
