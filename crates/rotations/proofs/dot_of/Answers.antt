use mathlib.Core.Path.{refl}
use Rattle.rotations.specs.Rotation.{dot}
use Rattle.rotations.proofs.dot_of.Goals as goal

pub returns : goal.returns
unfolding dot
returns c = refl
