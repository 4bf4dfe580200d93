use mathlib.Core.Path.{refl}
use Rattle.rotations.specs.Rotation.{times}
use Rattle.rotations.proofs.scaled.Goals as goal

pub returns : goal.returns
unfolding times
returns c = refl
