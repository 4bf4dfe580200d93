use Rattle.std.specs.Prelude.{Ok}
use Prim.Native.Nat.{◌/◌}
use lib.ListN.{length}
use native.Mathlib.Omega.{arith}
use mathlib.Core.Path.{refl, sym, ◌∙◌}
use Rattle.numbers.proofs.Question.{handed_on}
use Rattle.numbers.proofs.Searching.{lowest_more, lowest_hit, lowest_end}
use Rattle.scans.specs.ScanRows.{loop_faults}
use Rattle.scans.proofs.loop_rows.Goals as goal

pub returns-in_err-loop_34 : goal.returns-in_err-loop_34
returns-in_err-loop_34 c =
    let a = c.args in
    handed_on _ c.from_residual.ensures.1 ∙ sym c.in_err-loop_34.was
    ∙ lowest_hit (loop_faults a.ids.now a.loops.now) (Ok tt) _ c.loop-k.k (length a.loops.now / 2) refl c.loop-k.invariant
    c.loop_34.ensures c.in_err-loop_34.was (omega arith)

pub loop-k-preserved : goal.loop-k-preserved
loop-k-preserved c =
    let a = c.args in
    lowest_more (loop_faults a.ids.now a.loops.now) c.loop-k.k c.loop-k.invariant (sym c.loop_34.ensures ∙ c.in_ok-loop_34.was)

pub returns : goal.returns
returns c =
    let a = c.args in
    lowest_end (loop_faults a.ids.now a.loops.now) (Ok tt) c.loop-k.k (length a.loops.now / 2) refl c.loop-k.invariant (omega arith)
