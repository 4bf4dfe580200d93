use mathlib.Core.Path.{◌∙◌}
use native.Mathlib.Nat.{le_refl}
use Rattle.trials.proofs.Steps.{slot_below}
use Rattle.sparse_pgo.proofs.Sizes.{n_most, gradient_fits, rows_fit, step_bytes, step_fits, step_within}
use Rattle.sparse_pgo.proofs.Attempts.{attempt_failed, attempt_tried}
use Rattle.sparse_pgo.proofs.attempt.Goals as goal

pub returns-in_default : goal.returns-in_default
returns-in_default c =
    let p = c.requires in
    attempt_failed _ p.lent p.holds c.solve_damped.ensures (c.in_default.not-Ok tt) (c.solve_damped.auto.w ∙ p.lent.single)

pub overflow_mul-at : goal.overflow_mul-at
overflow_mul-at c = rows_fit (n_most c.requires.lent.sized)

pub overflow_add-at : goal.overflow_add-at
overflow_add-at c = gradient_fits (n_most c.requires.lent.sized)

pub overflow_add-at-2 : goal.overflow_add-at-2
overflow_add-at-2 c = step_fits (n_most c.requires.lent.sized)

pub offset_bounds-w32-at : goal.offset_bounds-w32-at
offset_bounds-w32-at c = step_bytes (n_most c.requires.lent.sized)

pub slice_bounds-try_step-count : goal.slice_bounds-try_step-count
slice_bounds-try_step-count c = step_within _ _ (c.solve_damped.auto.w ∙ c.requires.lent.single)

pub slice_bounds-try_step-start : goal.slice_bounds-try_step-start
slice_bounds-try_step-start c = step_within _ _ (c.solve_damped.auto.w ∙ c.requires.lent.single)

pub slice_bounds-try_step-end : goal.slice_bounds-try_step-end
slice_bounds-try_step-end c = le_refl _

pub returns : goal.returns
returns c =
    let p = c.requires in
    attempt_tried _ p.lent p.holds c.solve_damped.ensures c.in-Ok.is (c.solve_damped.auto.w ∙ p.lent.single) (slot_below _ _) (c.try_step.ensures.value, c.try_step.ensures.w_value)
