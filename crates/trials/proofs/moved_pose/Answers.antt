use mathlib.Core.Path.{◌∙◌, sym}
use native.Mathlib.Omega.{arith}
use lib.ListN.{get_or}
use lib.Ieee.{nan}
use Rattle.graph.proofs.Degrees.{dof_most}
use Rattle.trials.proofs.Steps.{slot_below}
use Rattle.trials.proofs.Poses.{moves_fixed, moves_into, moves_bad}
use Rattle.trials.proofs.moved_pose.Goals as goal

pub returns-in_default : goal.returns-in_default
returns-in_default c =
    let a = c.args in
    moves_fixed a.m a.poses.now (λ i. get_or a.step.now i nan) a.p c.pose_at-pose.ensures (sym c.slot.ensures ∙ c.in_default.is)

pub delta_of-delta-requires : goal.delta_of-delta-requires
delta_of-delta-requires c =
    let a = c.args in
    let below = slot_below a.links.blocks.now a.links.free a.p _ (sym c.slot.ensures ∙ c.in-Some.is) in
    let free = c.ranges.links.1 in
    (rw c.dof.ensures (dof_most a.m), omega arith)

pub returns-in-Ok : goal.returns-in-Ok
returns-in-Ok c =
    let a = c.args in
    moves_into a.m a.poses.now (λ i. get_or a.step.now i nan) a.p c.pose_at-pose.ensures (sym c.slot.ensures ∙ c.in-Some.is)
    c.dof.ensures c.delta_of-delta.ensures
    (sym c.retract.ensures ∙ c.in-Ok.is)

pub returns-in-Err : goal.returns-in-Err
returns-in-Err c =
    let a = c.args in
    moves_bad a.m a.poses.now (λ i. get_or a.step.now i nan) a.p c.pose_at-pose.ensures (sym c.slot.ensures ∙ c.in-Some.is)
    c.dof.ensures c.delta_of-delta.ensures (sym c.retract.ensures ∙ c.in-Err.is)
