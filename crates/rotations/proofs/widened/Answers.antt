use Rattle.rotations.specs.Rotation.{wide}
use Rattle.rotations.proofs.widened.Goals as goal

pub returns : goal.returns
unfolding wide
returns c =
    rw (
      c.from-7.ensures,
      c.from-6.ensures,
      c.from-5.ensures,
      c.from-4.ensures,
      c.from-3.ensures,
      c.from-2.ensures,
      c.from.ensures,
    )
