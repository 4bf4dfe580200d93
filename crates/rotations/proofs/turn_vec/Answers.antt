use mathlib.Core.Path.{refl}
use Rattle.rotations.specs.Rotation.{turned}
use Rattle.rotations.proofs.turn_vec.Goals as goal

pub returns : goal.returns
unfolding turned
returns c = refl
