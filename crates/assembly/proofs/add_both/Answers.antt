use Rattle.assembly.proofs.Edges.{both_lost, both_no_a, both_no_b, both_had}
use Rattle.jacobians.proofs.Sharing.{shared_at}
use Rattle.residual.specs.declared.EdgeEndpoint.TheVariants.{A, B}
use Rattle.jacobians.specs.Cells.{stowed_probes}
use Rattle.numbers.proofs.Question.{handed_on}
use Rattle.assembly.proofs.add_both.Goals as goal

pub returns-in_err-edge : goal.returns-in_err-edge
returns-in_err-edge c =
    let a = c.args in
    rw (handed_on _ c.from_residual.ensures.1)
    (both_lost a.m a.n (stowed_probes a.known.now a.a) (stowed_probes a.known.now a.b) a.linked a.i a.k a.w.now c.in_err-edge.was)

pub returns-in_err-ja : goal.returns-in_err-ja
returns-in_err-ja c =
    let a = c.args in
    let pre = c.requires in
    rw (handed_on _ c.from_residual-in_err-ja.ensures.1)
    (both_no_a a.m a.n (stowed_probes a.known.now a.a) (stowed_probes a.known.now a.b) a.linked a.i a.k a.w.now
    c.in_ok-edge.was (shared_at a.known.now a.a a.m _ A pre.4 pre.2 pre.5) c.jacobian.ensures c.in_err-ja.was)

pub returns-in_err-jb : goal.returns-in_err-jb
returns-in_err-jb c =
    let a = c.args in
    let pre = c.requires in
    rw (handed_on _ c.from_residual-in_err-jb.ensures.1)
    (both_no_b a.m a.n (stowed_probes a.known.now a.a) (stowed_probes a.known.now a.b) a.linked a.i a.k a.w.now
    c.in_ok-edge.was (shared_at a.known.now a.a a.m _ A pre.4 pre.2 pre.5) c.jacobian.ensures c.in_ok-ja.was
    (shared_at a.known.now a.b a.m _ B pre.4 pre.3 pre.6) c.jacobian-2.ensures c.in_err-jb.was)

pub returns : goal.returns
returns c =
    let a = c.args in
    let pre = c.requires in
    both_had a.m a.n (stowed_probes a.known.now a.a) (stowed_probes a.known.now a.b) a.linked a.i a.k a.w.now
    c.in_ok-edge.was (shared_at a.known.now a.a a.m _ A pre.4 pre.2 pre.5) c.jacobian.ensures c.in_ok-ja.was
    (shared_at a.known.now a.b a.m _ B pre.4 pre.3 pre.6) c.jacobian-2.ensures c.in_ok-jb.was
    c.six_of-r.ensures c.dof.ensures
    (record { inside = pre.0; there = pre.7 }) (record { inside = pre.1; there = pre.7 }) c.add_ends.ensures
