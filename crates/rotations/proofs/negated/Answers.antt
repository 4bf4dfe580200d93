use mathlib.Core.Path.{refl}
use Rattle.rotations.specs.Rotation.{minus}
use Rattle.rotations.proofs.negated.Goals as goal

pub returns : goal.returns
unfolding minus
returns c = refl
