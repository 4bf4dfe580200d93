-- The run's answer is judged at the poses that it gave. Assumes nothing.
use mathlib.Core.Path.{sym, ◌∙◌}
use Rattle.numbers.proofs.Question.{handed_on}
use Rattle.join_job.specs.Joining.{printable_of}
use Rattle.join_job.proofs.Patterns.{judged_as_lem}
use Rattle.join_job.proofs.judge_over.Goals as goal

pub returns-in_err-joined : goal.returns-in_err-joined
returns-in_err-joined c =
    let j = c.args.j in
    let e =
    judged_as_lem j.settings j.poses.now j.ends.now j.edges.now j.fixed.now c.args.out.now _ _
    (sym c.in_err-joined.was ∙ c.run_over.ensures.value) c.run_over.ensures.out_value in
    record { value = handed_on _ c.from_residual.ensures.1 ∙ e; out_value = c.run_over.ensures.out_value }

pub returns : goal.returns
unfolding printable_of
returns c =
    let j = c.args.j in
    let e =
    judged_as_lem j.settings j.poses.now j.ends.now j.edges.now j.fixed.now c.args.out.now _ _
    (sym c.in_ok-joined.was ∙ c.run_over.ensures.value) c.run_over.ensures.out_value in
    record { value = rw c.printable_after-p.ensures e; out_value = c.run_over.ensures.out_value }
