use Rattle.telling.proofs.refused_nine.Goals as goal

pub returns : goal.returns
returns c = rw c.place_of.ensures
