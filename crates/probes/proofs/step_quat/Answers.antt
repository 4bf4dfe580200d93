use mathlib.Core.Path.{◌≡◌, ◌∙◌}
use lib.Dec.{eqb}
use lib.Ieee.{neg, of_bits}
use borrow.Author.Tests.{eq-eqb, ne_eqb, lt-ltb, le-ltb}
use Rattle.numbers.specs.Notation.{num, ratio, ratio32, if_then}
use Rattle.numbers.proofs.Choices.{taken, left}
use Rattle.probes.specs.Stances.{step_quat}
use Rattle.probes.proofs.step_quat.Goals as goal
use Rattle.probes.proofs.step_quat.Goals.{else-ahead, else-c-eq3, else-c-eq4, else-c-eq5, then-ahead, then-c-eq3, then-c-eq4, then-c-eq5}

pub returns-then-c-lt3 : goal.returns-then-c-lt3
unfolding step_quat if_then ratio of_bits ratio32 neg
returns-then-c-lt3 c =
    let z-of : c.if-c-eq5.result ≡ if_then (eqb c.args.c 5) c.if-ahead.s (num 0) = (elim c.if-c-eq5.branch [ then-c-eq5 w ↦ taken _ (eq-eqb _ _ w.if-c-eq5.true) w.result-is | else-c-eq5 w ↦ left _ (ne_eqb _ _ w.if-c-eq5.false) w.result-is ]) in
    let y_of : c.if-c-eq4.result ≡ if_then (eqb c.args.c 4) c.if-ahead.s (num 0) = (elim c.if-c-eq4.branch [ then-c-eq4 w ↦ taken _ (eq-eqb _ _ w.if-c-eq4.true) w.result-is | else-c-eq4 w ↦ left _ (ne_eqb _ _ w.if-c-eq4.false) w.result-is ]) in
    let x-of : c.if-c-eq3.result ≡ if_then (eqb c.args.c 3) c.if-ahead.s (num 0) = (elim c.if-c-eq3.branch [ then-c-eq3 w ↦ taken _ (eq-eqb _ _ w.if-c-eq3.true) w.result-is | else-c-eq3 w ↦ left _ (ne_eqb _ _ w.if-c-eq3.false) w.result-is ]) in
    let sided : c.if-ahead.s ≡ if_then c.args.ahead (ratio32 1 2000) (neg (ratio32 1 2000)) = (elim c.if-ahead.branch [ then-ahead w ↦ taken _ w.if-ahead.true (w.s-is ∙ w.from-s.ensures) | else-ahead w ↦ left _ w.if-ahead.false (w.s-is ∙ w.from-s-else-ahead.ensures) ]) in
    rw (z-of, y_of, x-of, sided, lt-ltb _ _ c.if-c-lt3.true)

pub returns-then-c-lt6 : goal.returns-then-c-lt6
unfolding step_quat if_then ratio32 of_bits ratio neg
returns-then-c-lt6 c =
    let z-of : c.if-c-eq5.result ≡ if_then (eqb c.args.c 5) c.if-ahead.s (num 0) = (elim c.if-c-eq5.branch [ then-c-eq5 w ↦ taken _ (eq-eqb _ _ w.if-c-eq5.true) w.result-is | else-c-eq5 w ↦ left _ (ne_eqb _ _ w.if-c-eq5.false) w.result-is ]) in
    let y_of : c.if-c-eq4.result ≡ if_then (eqb c.args.c 4) c.if-ahead.s (num 0) = (elim c.if-c-eq4.branch [ then-c-eq4 w ↦ taken _ (eq-eqb _ _ w.if-c-eq4.true) w.result-is | else-c-eq4 w ↦ left _ (ne_eqb _ _ w.if-c-eq4.false) w.result-is ]) in
    let x-of : c.if-c-eq3.result ≡ if_then (eqb c.args.c 3) c.if-ahead.s (num 0) = (elim c.if-c-eq3.branch [ then-c-eq3 w ↦ taken _ (eq-eqb _ _ w.if-c-eq3.true) w.result-is | else-c-eq3 w ↦ left _ (ne_eqb _ _ w.if-c-eq3.false) w.result-is ]) in
    let sided : c.if-ahead.s ≡ if_then c.args.ahead (ratio32 1 2000) (neg (ratio32 1 2000)) = (elim c.if-ahead.branch [ then-ahead w ↦ taken _ w.if-ahead.true (w.s-is ∙ w.from-s.ensures) | else-ahead w ↦ left _ w.if-ahead.false (w.s-is ∙ w.from-s-else-ahead.ensures) ]) in
    rw (
      c.from.ensures,
      z-of,
      y_of,
      x-of,
      sided,
      le-ltb _ _ c.if-c-lt3.false,
      lt-ltb _ _ c.if-c-lt6.true,
    )

pub returns-else-c-lt6 : goal.returns-else-c-lt6
unfolding step_quat if_then ratio of_bits ratio32 neg
returns-else-c-lt6 c =
    let z-of : c.if-c-eq5.result ≡ if_then (eqb c.args.c 5) c.if-ahead.s (num 0) = (elim c.if-c-eq5.branch [ then-c-eq5 w ↦ taken _ (eq-eqb _ _ w.if-c-eq5.true) w.result-is | else-c-eq5 w ↦ left _ (ne_eqb _ _ w.if-c-eq5.false) w.result-is ]) in
    let y_of : c.if-c-eq4.result ≡ if_then (eqb c.args.c 4) c.if-ahead.s (num 0) = (elim c.if-c-eq4.branch [ then-c-eq4 w ↦ taken _ (eq-eqb _ _ w.if-c-eq4.true) w.result-is | else-c-eq4 w ↦ left _ (ne_eqb _ _ w.if-c-eq4.false) w.result-is ]) in
    let x-of : c.if-c-eq3.result ≡ if_then (eqb c.args.c 3) c.if-ahead.s (num 0) = (elim c.if-c-eq3.branch [ then-c-eq3 w ↦ taken _ (eq-eqb _ _ w.if-c-eq3.true) w.result-is | else-c-eq3 w ↦ left _ (ne_eqb _ _ w.if-c-eq3.false) w.result-is ]) in
    let sided : c.if-ahead.s ≡ if_then c.args.ahead (ratio32 1 2000) (neg (ratio32 1 2000)) = (elim c.if-ahead.branch [ then-ahead w ↦ taken _ w.if-ahead.true (w.s-is ∙ w.from-s.ensures) | else-ahead w ↦ left _ w.if-ahead.false (w.s-is ∙ w.from-s-else-ahead.ensures) ]) in
    rw (
      z-of,
      y_of,
      x-of,
      sided,
      le-ltb _ _ c.if-c-lt3.false,
      le-ltb _ _ c.if-c-lt6.false,
    )
