use mathlib.Core.Path.{◌∙◌}
use Rattle.numbers.proofs.Question.{handed_on}
use Rattle.additions.proofs.Ends.{ends_lost_a, ends_lost_b, ends_had}
use Rattle.additions.proofs.System.ends_within.Goals as goal

pub returns-in_err-end_within-clause-value : goal.returns-in_err-end_within-clause-value
returns-in_err-end_within-clause-value c =
    let a = c.args in
    let s = a.self.now in
    rw (handed_on _ c.from_residual.ensures.1)
    (ends_lost_a s.n s.dof a.i a.k a.ja.now a.jb.now a.r.now s.w.now c.end_within.ensures.value c.in_err-end_within.was)

pub returns-in_err-end_within-2-clause-value : goal.returns-in_err-end_within-2-clause-value
returns-in_err-end_within-2-clause-value c =
    let a = c.args in
    let s = a.self.now in
    let h = c.end_within.ensures in
    rw (handed_on _ c.from_residual-in_err-end_within-2.ensures.1)
    (ends_lost_b s.n s.dof a.i a.k a.ja.now a.jb.now a.r.now s.w.now h.value c.in_ok-end_within.was
    (rw (h.same.1, h.same.2) at c.end_within-2.ensures.value) c.in_err-end_within-2.was)

pub returns-clause-value : goal.returns-clause-value
returns-clause-value c =
    let a = c.args in
    let s = a.self.now in
    let h = c.end_within.ensures in
    let g = c.end_within-2.ensures in
    ends_had s.n s.dof a.i a.k a.ja.now a.jb.now a.r.now s.w.now h.value c.in_ok-end_within.was (rw (h.same.1, h.same.2) at g.value)
    c.in_ok-end_within-2.was (rw (g.same.1 ∙ h.same.1, g.same.2 ∙ h.same.2) at c.add_cross.ensures.value)
