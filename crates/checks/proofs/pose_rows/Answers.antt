use mathlib.Core.List.{[]}
use Rattle.std.specs.Prelude.{Ok}
use Prim.Native.Nat.{◌/◌}
use lib.ListN.{length}
use native.Mathlib.Omega.{arith}
use mathlib.Core.Path.{refl, sym, ◌∙◌}
use Rattle.numbers.proofs.Question.{handed_on}
use Rattle.numbers.proofs.Searching.{lowest_more, lowest_hit, lowest_end}
use Rattle.checks.specs.Input.{lent_graph}
use Rattle.checks.specs.Table.{pose_faults}
use Rattle.checks.proofs.pose_rows.Goals as goal

pub returns-in_err-pose_6 : goal.returns-in_err-pose_6
returns-in_err-pose_6 c =
    let a = c.args in
    handed_on _ c.from_residual.ensures.1 ∙ sym c.in_err-pose_6.was
    ∙ lowest_hit (pose_faults (lent_graph a.poses.now [] [] [])) (Ok tt) _ c.loop-x.x (length a.poses.now / 12) refl c.loop-x.invariant
    c.pose_6.ensures c.in_err-pose_6.was (omega arith)

pub loop-x-preserved : goal.loop-x-preserved
loop-x-preserved c =
    let a = c.args in
    lowest_more (pose_faults (lent_graph a.poses.now [] [] [])) c.loop-x.x c.loop-x.invariant (sym c.pose_6.ensures ∙ c.in_ok-pose_6.was)

pub returns : goal.returns
returns c =
    let a = c.args in
    lowest_end (pose_faults (lent_graph a.poses.now [] [] [])) (Ok tt) c.loop-x.x (length a.poses.now / 12) refl c.loop-x.invariant (omega arith)
