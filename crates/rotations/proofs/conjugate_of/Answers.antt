use mathlib.Core.Path.{refl}
use Rattle.rotations.specs.Rotation.{conjugate}
use Rattle.rotations.proofs.conjugate_of.Goals as goal

pub returns : goal.returns
unfolding conjugate
returns c = refl
