-- The measures and the cosine are those of the run, at the poses given and at those that came out. Assumes nothing.
use Rattle.job_terms.specs.Terms.{printable_after}
use Rattle.job_terms.proofs.printable_after.Goals as goal

pub returns : goal.returns
unfolding printable_after
returns c = rw (c.may_be_printed.ensures, c.min_gravity_cosine-cosine.ensures, c.measures_at-m.ensures)
