use mathlib.Core.Path.{◌∙◌}
use Rattle.numbers.proofs.Question.{handed_on}
use Rattle.residual.proofs.Linking.{tie_six, tie_failed}
use Rattle.residual.proofs.tie.Goals as goal

pub returns : goal.returns
returns c = tie_six _ c.residual_of.ensures c.in_ok-six.was

pub returns-in_err-six : goal.returns-in_err-six
returns-in_err-six c = handed_on _ c.from_residual.ensures.1 ∙ tie_failed _ c.residual_of.ensures c.in_err-six.was
