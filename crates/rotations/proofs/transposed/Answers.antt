use mathlib.Core.Path.{refl}
use Rattle.rotations.specs.Rotation.{transpose}
use Rattle.rotations.proofs.transposed.Goals as goal

pub returns : goal.returns
unfolding transpose
returns c = refl
