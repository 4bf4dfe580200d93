use Rattle.exports.proofs.vec_from.Goals as goal

pub returns : goal.returns
returns g c = rw (c.at-3.ensures, c.at-2.ensures, c.at.ensures)
