use mathlib.Core.Path.{◌∙◌}
use Rattle.numbers.proofs.Question.{handed_on}
use Rattle.residual.proofs.Linking.{six_had, six_lost}
use Rattle.residual.proofs.six_in.Goals as goal

pub returns : goal.returns
returns c = six_had c.in_ok-x.was

pub returns-in_err-x : goal.returns-in_err-x
returns-in_err-x c = handed_on _ c.from_residual.ensures.1 ∙ six_lost c.in_err-x.was
