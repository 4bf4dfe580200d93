use mathlib.Core.Path.{◌≡◌}
use lib.Ieee.{Float}
use Rattle.numbers.specs.Notation.{◌⊠◌}
use Rattle.rounding.specs.Rounding.{narrowed}
use Rattle.rotations.specs.Formats.{Vec3, Vec3F32}
use Rattle.residual.specs.Residuals.{weighted_vec}
use Rattle.residual.proofs.weigh_vec.Goals as goal

weighed : (w : Float) (v : Vec3) {x y z : Float} → x ≡ narrowed v.x → y ≡ narrowed v.y → z ≡ narrowed v.z
    → ◌≡◌ {A = Vec3F32} (record { x = w ⊠ x; y = w ⊠ y; z = w ⊠ z }) (weighted_vec w v)
unfolding weighted_vec
weighed w v x y z = rw (x, y, z)

pub returns : goal.returns
returns c = weighed _ _ c.narrow.ensures c.narrow-2.ensures c.narrow-3.ensures
