-- std's test for a finite float is that of the definitions. Assumes nothing.
use Rattle.std.proofs.Common.{◌≡◌, Bool, refl, ◌∙◌}
use Rattle.std.specs.Float.{float_is_finite}
use lib.Ieee.{Float, nan, inf, fin}
use lib.Ieee.Scale.{finite}

pub same_finite : (x : Float) → float_is_finite x ≡ finite x
unfolding float_is_finite
same_finite nan = refl
same_finite (inf s) = refl
same_finite (fin s m e) = refl

pub finite_test : (x : Float) {b : Bool} → b ≡ float_is_finite x → b ≡ finite x
finite_test x e = e ∙ same_finite x
