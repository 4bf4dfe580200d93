use mathlib.Core.Path.{sym, ap, ◌∙◌, subst}
use Prim.Native.Nat.{◌≤◌, ◌*◌}
use native.Mathlib.Omega.{arith}
use lib.ListN.{length}
use lib.Seq.{length-take-le}
use Rattle.profile.specs.Layout.{need}
use Rattle.normal_system.proofs.Building.{turned_down, need_most, work_enough, unit_n, assembled_part}
use Rattle.normal_system.proofs.assemble_alone.Goals as goal
use Rattle.normal_system.proofs.assemble_alone.Goals.{After-dof}

few_numbers : (c : After-dof) → need (c.dof.result * c.in-Ok.c.free) ≤ 148608
few_numbers c =
    let a = c.args in
    need_most a.m a.poses.now a.ends.now a.edges.now a.fixed.now a.work.now _ c.validate_pose_graph-checks.ensures _ c.in-Ok.is _ c.dof.ensures

enough : (c : After-dof) → need (c.dof.result * c.in-Ok.c.free) ≤ length c.args.work.now
enough c =
    let a = c.args in
    work_enough a.m a.poses.now a.ends.now a.edges.now a.fixed.now a.work.now _ c.validate_pose_graph-checks.ensures _ c.in-Ok.is _ c.dof.ensures

pub overflow_mul-count : goal.overflow_mul-count
overflow_mul-count c = let h = few_numbers (goal.at.overflow_mul-count c).After-dof in omega arith

pub slice_bounds-build-end : goal.slice_bounds-build-end
slice_bounds-build-end c = enough (goal.at.slice_bounds-build-end c).After-dof

pub slice_bounds-build-end-in-Ok : goal.slice_bounds-build-end-in-Ok
slice_bounds-build-end-in-Ok c = sym (length-take-le _ _ (enough (goal.at.slice_bounds-build-end-in-Ok c).After-dof))

pub build-requires : goal.build-requires
build-requires c =
    let a = c.args in
    let e = (goal.at.build-requires c).After-dof in
    let t = length-take-le _ a.work.now (enough e) in
    let u = unit_n a.m a.poses.now a.ends.now a.edges.now a.fixed.now a.work.now _ c.validate_pose_graph-checks.ensures
    _ c.in-Ok.is _ c.dof.ensures _ c.unit_manifold.ensures in
    (t ∙ ap need (sym u), subst (λ z. z ≤ 148608) (sym t) (few_numbers e))

pub returns-in-Err : goal.returns-in-Err
returns-in-Err c =
    let a = c.args in
    turned_down a.m a.poses.now a.ends.now a.edges.now a.fixed.now a.work.now _ c.validate_pose_graph-checks.ensures c.in-Err.is

pub returns-in-Ok : goal.returns-in-Ok
returns-in-Ok c =
    let a = c.args in
    assembled_part a.m a.poses.now a.ends.now a.edges.now a.fixed.now a.work.now _ c.validate_pose_graph-checks.ensures
    _ c.in-Ok.is _ c.dof.ensures _ c.unit_manifold.ensures c.build.ensures
