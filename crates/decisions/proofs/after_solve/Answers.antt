use Rattle.decisions.specs.Run.{solved}
use Rattle.decisions.proofs.after_solve.Goals as goal

pub returns-in-Failed : goal.returns-in-Failed
unfolding solved
returns-in-Failed c = simp (c.after_failed_solve.ensures, c.in-Failed.is)

pub returns-in-Small : goal.returns-in-Small
unfolding solved
returns-in-Small c = simp (c.after_small_step.ensures, c.in-Small.is)

pub returns-in-Accepted : goal.returns-in-Accepted
unfolding solved
returns-in-Accepted c = simp (c.after_accepted.ensures, c.in-Tried.is, c.in-Accepted.is)

pub returns-in-Rejected : goal.returns-in-Rejected
unfolding solved
returns-in-Rejected c = simp (c.after_rejected.ensures, c.in-Tried.is, c.in-Rejected.is)
