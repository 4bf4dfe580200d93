use mathlib.Core.Path.{sym, ◌∙◌}
use Rattle.std.proofs.lemmas.Result.{err_from_is_err_and}
use Rattle.job.proofs.Held.{stepped, seen_start, seen_on, seen_less, seen_done, seen_stop}
use Rattle.job.proofs.scan.Goals as goal

pub loop-d-init : goal.loop-d-init
loop-d-init c = seen_start c.args.room c.args.s.now

pub loop-d-smaller : goal.loop-d-smaller
loop-d-smaller c = seen_less c.loop-d.invariant _ (stepped c.step_at.ensures c.in_ok-d.was c.in-Some.is)

pub loop-d-preserved : goal.loop-d-preserved
loop-d-preserved c = seen_on c.loop-d.invariant _ (stepped c.step_at.ensures c.in_ok-d.was c.in-Some.is)

pub returns : goal.returns
returns c = seen_done c.loop-d.invariant (stepped c.step_at.ensures c.in_ok-d.was c.in_default.is)

pub returns-in_err-d : goal.returns-in_err-d
returns-in_err-d c =
    let p = err_from_is_err_and c.from_residual.result c.from_residual.ensures.1 in
    rw (p.1, p.2) (seen_stop c.loop-d.invariant _ (sym c.step_at.ensures ∙ c.in_err-d.was))
