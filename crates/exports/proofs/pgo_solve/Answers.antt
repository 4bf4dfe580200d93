use Rattle.std.specs.Prelude.{Err}
use mathlib.Core.Path.{refl, sym, ap, ◌∙◌}
use borrow.Author.Tests.{eq-eqb, ne_eqb}
use Rattle.numbers.proofs.Choices.{taken, left}
use Rattle.exports.specs.Layers.{solve_out}
use Rattle.exports.proofs.Steps.{count_fits, no_such_work}
use Rattle.exports.proofs.pgo_solve.Goals as goal

pub returns-then-k-ge2147483648 : goal.returns-then-k-ge2147483648
unfolding solve_out
returns-then-k-ge2147483648 c = left _ (ne_eqb _ _ (no_such_work _ _ c.if-k-ge2147483648.true c.well_formed.0.1)) refl

pub overflow_mul-k : goal.overflow_mul-k
overflow_mul-k c = record { fits = count_fits _ c.if-k-ge2147483648.false }

pub returns-then-work-k : goal.returns-then-work-k
unfolding solve_out
returns-then-work-k c = left _ (ne_eqb _ _ c.if-work-k.true) refl

pub returns-in-Ok : goal.returns-in-Ok
unfolding solve_out
returns-in-Ok c =
    taken _ (eq-eqb _ _ c.if-work-k.false)
    (rw (c.solve_damped.ensures.1, sym c.solve_damped.ensures.0 ∙ c.in-Ok.is))

pub returns-in-Failed : goal.returns-in-Failed
unfolding solve_out
returns-in-Failed c =
    taken _ (eq-eqb _ _ c.if-work-k.false)
    (rw (c.solve_damped.ensures.1, sym c.solve_damped.ensures.0 ∙ c.in-Err.is ∙ ap Err c.in-Failed.is))

pub returns-in-Short : goal.returns-in-Short
unfolding solve_out
returns-in-Short c =
    taken _ (eq-eqb _ _ c.if-work-k.false)
    (rw (c.solve_damped.ensures.1, sym c.solve_damped.ensures.0 ∙ c.in-Err.is ∙ ap Err c.in-Short.is))
