use mathlib.Core.Path.{refl, sym, ap, ◌∙◌}
use Rattle.std.specs.Prelude.{Err}
use Rattle.numbers.proofs.Choices.{taken, left}
use Rattle.numbers.proofs.Question.{handed_on, option_some, option_none}
use Rattle.probes.specs.Stances.{joined}
use Rattle.probes.proofs.join.Goals as goal

pub returns-in_err-q : goal.returns-in_err-q
unfolding joined
returns-in_err-q c =
    let n = option_none _ c.ok_or.ensures.value c.in_err-q.was in
    rw n.0 (handed_on _ c.from_residual.ensures.1 ∙ ap Err n.1)

pub returns-then-vec3_f32_is_finite : goal.returns-then-vec3_f32_is_finite
unfolding joined
returns-then-vec3_f32_is_finite c =
    rw (option_some _ c.ok_or.ensures.ok_part c.in_ok-q.was) (taken _ (sym c.vec3_f32_is_finite.ensures ∙ c.if-vec3_f32_is_finite.true) refl)

pub returns-else-vec3_f32_is_finite : goal.returns-else-vec3_f32_is_finite
unfolding joined
returns-else-vec3_f32_is_finite c =
    rw (option_some _ c.ok_or.ensures.ok_part c.in_ok-q.was) (left _ (sym c.vec3_f32_is_finite.ensures ∙ c.if-vec3_f32_is_finite.false) refl)
