use Rattle.exports.specs.Layers.{transform_from}
use Rattle.exports.proofs.transform_from.Goals as goal

pub returns : goal.returns
unfolding transform_from
returns c =
    rw (
      c.vec_from.ensures,
      c.at-4.ensures,
      c.at-3.ensures,
      c.at-2.ensures,
      c.at.ensures,
    )
