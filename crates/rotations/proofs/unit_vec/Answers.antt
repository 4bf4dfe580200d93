use Rattle.rotations.proofs.unit_vec.Goals as goal

pub returns : goal.returns
returns c = rw (c.vec_over.ensures, c.length_of.ensures)
