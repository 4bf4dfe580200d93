use mathlib.Core.Path.{◌≡◌, refl, sym, ◌∙◌}
use mathlib.Core.Bool.{◌&&◌}
use Rattle.numbers.proofs.Choices.{taken, left}
use Rattle.residual.specs.Residuals.{six_if_finite, finite_twist}
use Rattle.numbers.proofs.Steps.{both}
use Rattle.residual.proofs.six_if_finite.Goals as goal

pub returns-then-vec3_f32_is_finite : goal.returns-then-vec3_f32_is_finite
unfolding six_if_finite finite_twist
returns-then-vec3_f32_is_finite c =
    let found : (c.vec3_f32_is_finite.result && c.vec3_f32_is_finite-2.result) ≡ finite_twist c.args.d = both c.vec3_f32_is_finite.ensures c.vec3_f32_is_finite-2.ensures in
    taken _ (sym (found) ∙ c.if-vec3_f32_is_finite.true) refl

pub returns-else-vec3_f32_is_finite : goal.returns-else-vec3_f32_is_finite
unfolding six_if_finite finite_twist
returns-else-vec3_f32_is_finite c =
    let found : (c.vec3_f32_is_finite.result && c.vec3_f32_is_finite-2.result) ≡ finite_twist c.args.d = both c.vec3_f32_is_finite.ensures c.vec3_f32_is_finite-2.ensures in
    left _ (sym (found) ∙ c.if-vec3_f32_is_finite.false) refl
