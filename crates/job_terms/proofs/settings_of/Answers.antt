use Rattle.job_terms.proofs.settings_of.Goals as goal

pub returns : goal.returns
returns c = rw (c.single_of-3.ensures, c.single_of-2.ensures, c.single_of.ensures)
