use Rattle.rotations.specs.Rotation.{inverse}
use Rattle.rotations.proofs.inverse_of.Goals as goal

pub returns : goal.returns
unfolding inverse
returns c =
    rw (
      c.finish.ensures,
      c.negated.ensures,
      c.turn_vec.ensures,
      c.matrix_of-m.ensures,
      c.conjugate_of-q.ensures,
      c.widened-u.ensures,
    )
