use Rattle.exports.proofs.step_from.Goals as goal

pub returns : goal.returns
returns c = rw (c.vec_from-a.ensures, c.vec_from-b.ensures)
