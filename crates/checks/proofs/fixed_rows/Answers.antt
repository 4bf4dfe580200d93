use Rattle.std.specs.Prelude.{Ok}
use lib.ListN.{length}
use native.Mathlib.Omega.{arith}
use mathlib.Core.Path.{refl, sym, ◌∙◌}
use Rattle.numbers.proofs.Question.{handed_on}
use Rattle.numbers.proofs.Searching.{lowest_more, lowest_hit, lowest_end}
use Rattle.rows.specs.Tests.{fixed_faults}
use Rattle.checks.proofs.fixed_rows.Goals as goal

pub returns-in_err-fixed_11 : goal.returns-in_err-fixed_11
returns-in_err-fixed_11 c =
    let a = c.args in
    handed_on _ c.from_residual.ensures.1 ∙ sym c.in_err-fixed_11.was
    ∙ lowest_hit (fixed_faults a.n a.fixed.now) (Ok tt) _ c.loop-k.k (length a.fixed.now) refl c.loop-k.invariant
    c.fixed_11.ensures c.in_err-fixed_11.was (omega arith)

pub loop-k-preserved : goal.loop-k-preserved
loop-k-preserved c =
    let a = c.args in
    lowest_more (fixed_faults a.n a.fixed.now) c.loop-k.k c.loop-k.invariant
    (sym c.fixed_11.ensures ∙ c.in_ok-fixed_11.was)

pub returns : goal.returns
returns c =
    let a = c.args in
    lowest_end (fixed_faults a.n a.fixed.now) (Ok tt) c.loop-k.k (length a.fixed.now) refl c.loop-k.invariant (omega arith)
