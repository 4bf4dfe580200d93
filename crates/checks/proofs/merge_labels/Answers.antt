use native.Mathlib.Omega.{arith}
use Rattle.checks.proofs.Labelling.{larger_merges, smaller_merges, same_merges}
use Rattle.checks.proofs.merge_labels.Goals as goal

pub returns-then-p-q : goal.returns-then-p-q
returns-then-p-q c =
    let a = c.args in
    larger_merges a.labels.now c.relabel.new.labels a.a a.b _ _ c.block_at-p.ensures c.block_at-q.ensures c.if-p-q.true
    (omega arith) c.relabel.auto.labels c.relabel.ensures

pub returns-then-q-p : goal.returns-then-q-p
returns-then-q-p c =
    let a = c.args in
    smaller_merges a.labels.now c.relabel-then-q-p.new.labels a.a a.b _ _ c.block_at-p.ensures c.block_at-q.ensures c.if-q-p.true
    (omega arith) c.relabel-then-q-p.auto.labels c.relabel-then-q-p.ensures

pub returns-else-q-p : goal.returns-else-q-p
returns-else-q-p c =
    let a = c.args in
    same_merges a.labels.now a.a a.b _ _ c.block_at-p.ensures c.block_at-q.ensures
    c.if-p-q.false c.if-q-p.false
