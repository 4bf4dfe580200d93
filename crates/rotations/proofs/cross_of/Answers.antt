use mathlib.Core.Path.{refl}
use Rattle.rotations.specs.Rotation.{cross}
use Rattle.rotations.proofs.cross_of.Goals as goal

pub returns : goal.returns
unfolding cross
returns c = refl
