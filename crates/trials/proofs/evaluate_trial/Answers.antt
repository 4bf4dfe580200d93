use lib.ListN.{get_or}
use lib.Ieee.{nan}
use Rattle.graph.specs.Lent.{links_lent}
use Rattle.trials.proofs.Trying.{trial_unmoved, trial_priced, trial_unpriced}
use Rattle.trials.proofs.evaluate_trial.Goals as goal

pub returns-then-not-retract_free : goal.returns-then-not-retract_free
returns-then-not-retract_free c =
    let a = c.args in
    trial_unmoved a.m (links_lent a.links) a.cost (λ i. get_or a.step.now i nan) a.w.now
    c.retract_free.ensures c.if-not-retract_free.true

pub returns-in-Ok : goal.returns-in-Ok
returns-in-Ok c =
    let a = c.args in
    trial_priced a.m (links_lent a.links) a.cost (λ i. get_or a.step.now i nan) a.w.now
    c.retract_free.ensures c.if-not-retract_free.false c.retract_free.auto.w
    c.active_total_squared_residual_cost-found.ensures c.in-Ok.is c.judge.ensures

pub returns-in-Err : goal.returns-in-Err
returns-in-Err c =
    let a = c.args in
    trial_unpriced a.m (links_lent a.links) a.cost (λ i. get_or a.step.now i nan) a.w.now
    c.retract_free.ensures c.if-not-retract_free.false c.retract_free.auto.w
    c.active_total_squared_residual_cost-found.ensures c.in-Err.is
