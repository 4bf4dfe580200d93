use mathlib.Core.Path.{refl}
use Rattle.rotations.specs.Rotation.{plus}
use Rattle.rotations.proofs.sum_of.Goals as goal

pub returns : goal.returns
unfolding plus
returns c = refl
