use Rattle.exports.specs.Layers.{matrix_from}
use Rattle.exports.proofs.matrix_from.Goals as goal

pub returns : goal.returns
unfolding matrix_from
returns c = rw (c.vec_from-3.ensures, c.vec_from-2.ensures, c.vec_from.ensures)
