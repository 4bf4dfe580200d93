use Rattle.line.specs.Text.{unreadable_text}
use Rattle.line.proofs.unreadable.Goals as goal

pub returns : goal.returns
unfolding unreadable_text
returns c = rw (c.with_text.ensures, c.empty.ensures)
