use Rattle.decisions.proofs.after_small_step.Goals as goal

pub returns : goal.returns
returns c = simp c.one_more.ensures
