use Rattle.solve.specs.forms.Profile.{ahead_from}
use Rattle.solve.proofs.System.next_ahead.Goals as goal

pub returns : goal.returns
unfolding ahead_from
returns c = rw (c.less.ensures, c.start-a.ensures, c.first_of.ensures)
