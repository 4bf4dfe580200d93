use Rattle.assembly.proofs.Edges.{one_lost, one_no_jacobian, one_had}
use Rattle.jacobians.proofs.Sharing.{shared_at}
use Rattle.jacobians.specs.Cells.{stowed_probes}
use Rattle.numbers.proofs.Question.{handed_on}
use Rattle.assembly.proofs.add_one.Goals as goal

pub returns-in_err-edge : goal.returns-in_err-edge
returns-in_err-edge c =
    let a = c.args in
    rw (handed_on _ c.from_residual.ensures.1)
    (one_lost a.m a.n (stowed_probes a.known.now a.x) a.linked a.end a.block a.w.now c.in_err-edge.was)

pub returns-in_err-j : goal.returns-in_err-j
returns-in_err-j c =
    let a = c.args in
    let pre = c.requires in
    rw (handed_on _ c.from_residual-in_err-j.ensures.1)
    (one_no_jacobian a.m a.n (stowed_probes a.known.now a.x) a.linked a.end a.block a.w.now
    c.in_ok-edge.was (shared_at a.known.now a.x a.m _ a.end pre.2 pre.1 pre.3) c.jacobian.ensures c.in_err-j.was)

pub returns : goal.returns
returns c =
    let a = c.args in
    let pre = c.requires in
    one_had a.m a.n (stowed_probes a.known.now a.x) a.linked a.end a.block a.w.now
    c.in_ok-edge.was (shared_at a.known.now a.x a.m _ a.end pre.2 pre.1 pre.3) c.jacobian.ensures c.in_ok-j.was
    c.six_of-r.ensures c.dof.ensures (record { inside = pre.0; there = pre.4 })
    c.add_end.ensures
