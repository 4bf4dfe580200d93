use Rattle.rotations.specs.Rotation.{finished}
use Rattle.rotations.proofs.finish.Goals as goal

pub returns : goal.returns
unfolding finished
returns c =
    rw (
      c.narrow-7.ensures,
      c.narrow-6.ensures,
      c.narrow-5.ensures,
      c.narrow-4.ensures,
      c.narrow-3.ensures,
      c.narrow-2.ensures,
      c.narrow.ensures,
    )
