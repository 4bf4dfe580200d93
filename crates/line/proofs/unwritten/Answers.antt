use Rattle.line.specs.Text.{unwritten_text}
use Rattle.line.proofs.unwritten.Goals as goal

pub returns : goal.returns
unfolding unwritten_text
returns c = rw (c.with_text.ensures, c.empty.ensures)
