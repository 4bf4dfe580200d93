use Rattle.retraction.specs.Retraction.{centre_of}
use Rattle.retraction.proofs.centre_of.Goals as goal

pub returns : goal.returns
unfolding centre_of
returns c =
    rw (
      c.sum_of.ensures,
      c.three_from.ensures,
      c.negated-centre.ensures,
      c.turn_vec.ensures,
      c.transposed.ensures,
    )
