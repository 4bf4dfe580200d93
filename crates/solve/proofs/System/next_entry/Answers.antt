use Rattle.solve.specs.forms.Profile.{entry_from}
use Rattle.solve.proofs.System.next_entry.Goals as goal

pub returns : goal.returns
unfolding entry_from
returns c = rw (c.less.ensures, c.start-a.ensures, c.first_of.ensures, c.requires.2)
