use Rattle.rotations.proofs.length_of.Goals as goal

pub returns : goal.returns
returns c = rw (c.sqrt64.ensures, c.dot_of.ensures)
