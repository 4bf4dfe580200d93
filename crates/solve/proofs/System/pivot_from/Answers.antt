use Rattle.solve.specs.forms.Profile.{pivot_from}
use Rattle.solve.proofs.System.pivot_from.Goals as goal

pub returns : goal.returns
unfolding pivot_from
returns c = c.less.ensures
