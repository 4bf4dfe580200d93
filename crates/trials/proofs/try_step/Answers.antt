use Rattle.graph.specs.Lent.{links_lent}
use Rattle.trials.proofs.Trying.{try_small, try_accepted, try_rejected}
use Rattle.trials.proofs.try_step.Goals as goal

pub returns-then-norm-from : goal.returns-then-norm-from
returns-then-norm-from c =
    let a = c.args in
    let r = try_small a.m (links_lent a.links) a.cost a.step.now a.w.now
    c.l2_norm-norm.ensures c.from.ensures c.if-norm-from.true in
    record { value = r.0; w_value = r.1 }

pub returns-in-Accepted : goal.returns-in-Accepted
returns-in-Accepted c =
    let a = c.args in
    let r = try_accepted a.m (links_lent a.links) a.cost a.step.now a.w.now
    c.l2_norm-norm.ensures c.from.ensures c.if-norm-from.false c.evaluate_trial-t.ensures c.in-Accepted.is c.accept.ensures in
    record { value = r.0; w_value = r.1 }

pub returns-in_default : goal.returns-in_default
returns-in_default c =
    let a = c.args in
    let r = try_rejected a.m (links_lent a.links) a.cost a.step.now a.w.now
    c.l2_norm-norm.ensures c.from.ensures c.if-norm-from.false c.evaluate_trial-t.ensures c.in_default.is in
    record { value = r.0; w_value = r.1 }
