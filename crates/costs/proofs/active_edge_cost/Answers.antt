use Rattle.numbers.specs.Walks.{made}
use Rattle.numbers.specs.declared.Failure.{Failure}
use Rattle.exp_log.specs.Formats.{Twist}
use Rattle.std.specs.Prelude.{Result}
use Rattle.costs.proofs.Costing.{passed_over, counted}
use Rattle.costs.specs.Costs.{priced}
use Rattle.graph.specs.Lent.{pose_at, links_lent}
use mathlib.Core.Path.{ap, ◌∙◌}
use Rattle.costs.proofs.Stowing.{residual_stowed}
use Rattle.costs.proofs.active_edge_cost.Goals as goal

pub returns-then-not-active : goal.returns-then-not-active
returns-then-not-active c =
    let a = c.args in
    passed_over (links_lent a.links) (pose_at a.poses.now) a.k a.c
    c.index_at-a.ensures c.index_at-b.ensures
    c.slot.ensures c.slot-2.ensures c.is_some.ensures
    c.is_some-2.ensures c.if-not-active.true-raw

pub returns : goal.returns
returns c =
    let a = c.args in
    let linked = c.linked_at.ensures in
    let six = residual_stowed a.poses.now a.known.now a.count _ _ _ c.requires.1 linked c.six_in.ensures in
    counted (links_lent a.links) (pose_at a.poses.now) a.k a.c
    c.index_at-a.ensures c.index_at-b.ensures
    c.slot.ensures c.slot-2.ensures c.is_some.ensures
    c.is_some-2.ensures c.if-not-active.false-raw
    (c.accumulate_edge_squared_cost.ensures ∙ ap (λ (r : Result Twist Failure). made (priced r a.c)) six)
