use Rattle.std.specs.Prelude.{Ok}
use native.Mathlib.Omega.{arith}
use mathlib.Core.Path.{refl, sym, ◌∙◌}
use Rattle.numbers.proofs.Question.{handed_on}
use Rattle.numbers.proofs.Searching.{lowest_more, lowest_hit, lowest_end}
use Rattle.checks.specs.Labels.{label_faults}
use Rattle.checks.proofs.island_rows.Goals as goal

pub returns-in_err-pose_26 : goal.returns-in_err-pose_26
returns-in_err-pose_26 c =
    let a = c.args in
    handed_on _ c.from_residual.ensures.1 ∙ sym c.in_err-pose_26.was
    ∙ lowest_hit (label_faults a.labels.now) (Ok tt) _ c.loop-x.x a.n refl c.loop-x.invariant c.pose_26.ensures c.in_err-pose_26.was (omega arith)

pub loop-x-preserved : goal.loop-x-preserved
loop-x-preserved c =
    let a = c.args in
    lowest_more (label_faults a.labels.now) c.loop-x.x c.loop-x.invariant (sym c.pose_26.ensures ∙ c.in_ok-pose_26.was)

pub returns : goal.returns
returns c =
    let a = c.args in
    lowest_end (label_faults a.labels.now) (Ok tt) c.loop-x.x a.n refl c.loop-x.invariant (omega arith)
