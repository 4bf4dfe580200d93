use Rattle.decisions.proofs.at_limit.Goals as goal

pub returns : goal.returns
returns c = simp c.iterations.ensures
