use mathlib.Core.Path.{refl}
use Rattle.rotations.specs.Rotation.{over}
use Rattle.rotations.proofs.vec_over.Goals as goal

pub returns : goal.returns
unfolding over
returns c = refl
