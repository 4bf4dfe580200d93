use Rattle.numbers.proofs.Question.{handed_on}
use Rattle.additions.proofs.Ends.{end_failed, end_went}
use Rattle.additions.proofs.System.end_within.Goals as goal

pub returns-in_err-accumulate_gradient-clause-value : goal.returns-in_err-accumulate_gradient-clause-value
returns-in_err-accumulate_gradient-clause-value c =
    let a = c.args in
    rw (handed_on _ c.from_residual.ensures.1)
    (end_failed a.self.now.n a.self.now.dof a.b a.j.now a.r.now a.self.now.w.now c.accumulate_gradient.ensures c.in_err-accumulate_gradient.was)

pub returns-clause-value : goal.returns-clause-value
returns-clause-value c =
    let a = c.args in
    end_went a.self.now.n a.self.now.dof a.b a.j.now a.r.now a.self.now.w.now
    c.accumulate_gradient.ensures
    c.in_ok-accumulate_gradient.was c.accumulate_hessian.ensures.value
