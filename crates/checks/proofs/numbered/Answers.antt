use mathlib.Core.List.{[]}
use Prim.Native.Nat.{ℕ, ◌<◌}
use native.Mathlib.Omega.{arith}
use mathlib.Core.Path.{◌≡◌, refl, ap, ◌∙◌}
use mathlib.Core.Bool.{true, false}
use Rattle.numbers.specs.Walks.{count, table}
use Rattle.numbers.proofs.Choices.{taken, left}
use Rattle.numbers.proofs.Walking.{count_none, count_yes, count_no, count_at_most}
use Rattle.numbers.proofs.Tables.{replicate_table, table_read}
use Rattle.graph.specs.Graph.{is_free, block_of}
use Rattle.graph.specs.Lent.{none}
use Rattle.checks.specs.Input.{lent_graph}
use Rattle.checks.specs.Table.{block_number}
use Rattle.numbers.proofs.Filling.{filled, fill_none, fill_store, fill_keep, fill_all}
use Rattle.checks.proofs.numbered.Goals as goal
use Rattle.checks.proofs.numbered.Goals.{else-is_free, then-is_free}

pub loop-x-init : goal.loop-x-init
loop-x-init c =
    let a = c.args in
    let g = lent_graph [] a.ends.now [] a.fixed.now in
    (replicate_table 256 none ∙ fill_none (block_number g) none 256, count_none (is_free g))

pub overflow_add-free : goal.overflow_add-free
overflow_add-free c =
    let a = c.args in
    let h = count_at_most (is_free (lent_graph [] a.ends.now [] a.fixed.now)) c.loop-x.x in
    omega arith

pub loop-x-preserved : goal.loop-x-preserved
unfolding block_number
loop-x-preserved c =
    let a = c.args in
    let g = lent_graph [] a.ends.now [] a.fixed.now in
    let x = c.loop-x.x in
    let m = c.free_poses-marks.ensures in
    let h : x < 256 = c.loop-x-test.true in (
      (elim c.if-is_free.branch [
        | then-is_free w ↦ w.at-is ∙ fill_store (block_number g) none 256 x _ _ h c.loop-x.invariant.0
            (taken none (table_read (is_free g) 256 x false true _ m h w.if-is_free.true) c.loop-x.invariant.1)
        | else-is_free w ↦ w.at-is ∙ fill_keep (block_number g) none 256 x _ c.loop-x.invariant.0
            (left (block_of g x) (table_read (is_free g) 256 x false false _ m h w.if-is_free.false) refl)
      ]),
      (elim c.if-is_free.branch [
        | then-is_free w ↦ w.free-is ∙ count_yes (is_free g) x _ c.loop-x.invariant.1 (table_read (is_free g) 256 x false true _ m h w.if-is_free.true)
        | else-is_free w ↦ w.free-is ∙ count_no (is_free g) x _ c.loop-x.invariant.1 (table_read (is_free g) 256 x false false _ m h w.if-is_free.false)
      ]),
    )

pub returns : goal.returns
returns c =
    let a = c.args in
    let g = lent_graph [] a.ends.now [] a.fixed.now in
    let e : c.loop-x.x ≡ 256 = omega arith in (
      fill_all (block_number g) none 256 _ (c.loop-x.invariant.0 ∙ ap (λ (m : ℕ). table (filled (block_number g) none m) 256) e),
      c.loop-x.invariant.1 ∙ ap (count (is_free g)) e,
    )
