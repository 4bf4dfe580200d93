use mathlib.Core.Path.{◌≡◌, ◌∙◌}
use lib.Dec.{eqb}
use lib.Ieee.{neg, of_bits}
use borrow.Author.Tests.{eq-eqb, ne_eqb}
use Rattle.numbers.specs.Notation.{num, ratio, ratio32, if_then}
use Rattle.numbers.proofs.Choices.{taken, left}
use Rattle.probes.specs.Probes.{step_size}
use Rattle.probes.specs.Stances.{step_shift}
use Rattle.probes.proofs.step_shift.Goals as goal
use Rattle.probes.proofs.step_shift.Goals.{else-ahead, else-c-eq0, else-c-eq1, then-ahead, then-c-eq0, then-c-eq1}

pub returns-then-c-eq2 : goal.returns-then-c-eq2
unfolding step_shift if_then ratio of_bits ratio32 neg
returns-then-c-eq2 c =
    let y_of : c.if-c-eq1.result ≡ if_then (eqb c.args.c 1) c.if-ahead.s (num 0) = (elim c.if-c-eq1.branch [ then-c-eq1 w ↦ taken _ (eq-eqb _ _ w.if-c-eq1.true) w.result-is | else-c-eq1 w ↦ left _ (ne_eqb _ _ w.if-c-eq1.false) w.result-is ]) in
    let x-of : c.if-c-eq0.result ≡ if_then (eqb c.args.c 0) c.if-ahead.s (num 0) = (elim c.if-c-eq0.branch [ then-c-eq0 w ↦ taken _ (eq-eqb _ _ w.if-c-eq0.true) w.result-is | else-c-eq0 w ↦ left _ (ne_eqb _ _ w.if-c-eq0.false) w.result-is ]) in
    let sided : c.if-ahead.s ≡ step_size c.args.ahead = (elim c.if-ahead.branch [ then-ahead w ↦ rw w.if-ahead.true (w.s-is ∙ w.from-s.ensures) | else-ahead w ↦ rw w.if-ahead.false (w.s-is ∙ w.from-s-else-ahead.ensures) ]) in
    rw (y_of, x-of, sided, eq-eqb _ _ c.if-c-eq2.true)

pub returns-else-c-eq2 : goal.returns-else-c-eq2
unfolding step_shift if_then ratio of_bits ratio32 neg
returns-else-c-eq2 c =
    let y_of : c.if-c-eq1.result ≡ if_then (eqb c.args.c 1) c.if-ahead.s (num 0) = (elim c.if-c-eq1.branch [ then-c-eq1 w ↦ taken _ (eq-eqb _ _ w.if-c-eq1.true) w.result-is | else-c-eq1 w ↦ left _ (ne_eqb _ _ w.if-c-eq1.false) w.result-is ]) in
    let x-of : c.if-c-eq0.result ≡ if_then (eqb c.args.c 0) c.if-ahead.s (num 0) = (elim c.if-c-eq0.branch [ then-c-eq0 w ↦ taken _ (eq-eqb _ _ w.if-c-eq0.true) w.result-is | else-c-eq0 w ↦ left _ (ne_eqb _ _ w.if-c-eq0.false) w.result-is ]) in
    let sided : c.if-ahead.s ≡ step_size c.args.ahead = (elim c.if-ahead.branch [ then-ahead w ↦ rw w.if-ahead.true (w.s-is ∙ w.from-s.ensures) | else-ahead w ↦ rw w.if-ahead.false (w.s-is ∙ w.from-s-else-ahead.ensures) ]) in
    rw (y_of, x-of, sided, ne_eqb _ _ c.if-c-eq2.false)
