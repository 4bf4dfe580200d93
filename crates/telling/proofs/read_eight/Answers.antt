use Rattle.telling.proofs.read_eight.Goals as goal

pub returns : goal.returns
returns c = rw (c.place_of-3.ensures, c.place_of-2.ensures, c.place_of.ensures)
