use Rattle.telling.proofs.refused_eight.Goals as goal

pub returns : goal.returns
returns c = rw c.place_of.ensures
