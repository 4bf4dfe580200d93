use mathlib.Core.Path.{refl}
use Rattle.rotations.specs.Rotation.{quat_product}
use Rattle.rotations.proofs.quat_product.Goals as goal

pub returns : goal.returns
unfolding quat_product
returns c = refl
