-- Each answer has its own words. Assumes nothing.
use Rattle.join_job.specs.Joining.{printable_text}
use Rattle.join_job.proofs.printable_said.Goals as goal

pub returns-in-Yes : goal.returns-in-Yes
unfolding printable_text
returns-in-Yes c = rw (c.with_text.ensures, c.empty.ensures, c.in-Yes.is)

pub returns-in-NoResidual : goal.returns-in-NoResidual
unfolding printable_text
returns-in-NoResidual c = rw (c.with_text-in-NoResidual.ensures, c.empty-in-NoResidual.ensures, c.in-NoResidual.is)

pub returns-in-CostKept : goal.returns-in-CostKept
unfolding printable_text
returns-in-CostKept c = rw (c.with_two.ensures, c.in-CostKept.is)

pub returns-in-LastWorse : goal.returns-in-LastWorse
unfolding printable_text
returns-in-LastWorse c = rw (c.with_two-in-LastWorse.ensures, c.in-LastWorse.is)
