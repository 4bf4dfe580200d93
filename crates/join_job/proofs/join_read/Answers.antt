use Rattle.numbers.specs.declared.Refusal.{Refusal}
use Rattle.std.proofs.Common.{sym, ap, ◌∙◌, Result, ℕ}
use Rattle.join_job.specs.Lent.{space_in}
use Rattle.join_job.proofs.Joins.{run_refused, run_written}
use Rattle.join_job.proofs.join_read.Goals as goal

pub returns-in-Err : goal.returns-in-Err
returns-in-Err c =
    rw c.refused.ensures
    (run_refused _ _ _ _ _ (sym c.in-Err.is ∙ c.run_job-a.ensures.value))

pub returns-in-Ok-write_job : goal.returns-in-Ok-write_job
returns-in-Ok-write_job c =
    let a = c.args in
    let l = space_in a.j in
    run_written a.j.settings a.had l a.out.now c.in-Ok.judged.0 c.in-Ok.judged.1 _ _ _ (sym c.in-Ok.is ∙ c.run_job-a.ensures.value) c.run_job-a.ensures.value_2
    (ap (λ (y : Result ℕ Refusal). (y, c.write_job.new.out)) (sym c.in-Ok-write_job.is) ∙ c.write_job.ensures)

pub returns-in-Err-write_job : goal.returns-in-Err-write_job
returns-in-Err-write_job c =
    let a = c.args in
    let l = space_in a.j in
    rw c.refused-in-Err-write_job.ensures
    (run_written a.j.settings a.had l a.out.now c.in-Ok.judged.0 c.in-Ok.judged.1 _ _ _ (sym c.in-Ok.is ∙ c.run_job-a.ensures.value) c.run_job-a.ensures.value_2
    (ap (λ (y : Result ℕ Refusal). (y, c.write_job.new.out)) (sym c.in-Err-write_job.is) ∙ c.write_job.ensures))
