-- A run has a second line; a job that was turned down has an empty one. Assumes nothing.
use Rattle.line.specs.Text.{empty}
use Rattle.line.proofs.Lines.{text_none}
use Rattle.join_job.proofs.second_said.Goals as goal

pub returns-in-Err : goal.returns-in-Err
returns-in-Err c = rw (c.empty.ensures, c.in-Err.is) (text_none empty)
