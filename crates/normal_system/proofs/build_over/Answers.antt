use mathlib.Core.Path.{◌∙◌}
use Prim.Native.Nat.{◌*◌}
use lib.ListN.{length}
use lib.Seq.{length-take-le, take_at}
use Rattle.graph.specs.Lent.{dof_of, pose_at, links_lent}
use Rattle.normal_system.proofs.Building.{built, unbuilt}
use Rattle.normal_system.proofs.build_over.Goals as goal

pub returns-then-row-ne0 : goal.returns-then-row-ne0
returns-then-row-ne0 c =
    unbuilt c.args.m (dof_of c.args.m * c.args.links.free) (links_lent c.args.links)
    (pose_at c.args.poses.now) c.args.work.now c.args.system.now _ _ c.requires.0 c.requires.1
    c.build_normal_system_with_mapping-made.ensures
    c.built_number-row.ensures c.if-row-ne0.true

pub returns : goal.returns
returns c =
    let whole = c.build_normal_system_with_mapping-made.auto.w ∙ length-take-le (length c.args.work.now) c.args.system.now c.requires.1 in
    built c.args.m (dof_of c.args.m * c.args.links.free) (links_lent c.args.links)
    (pose_at c.args.poses.now) c.args.work.now c.args.system.now _ _ c.requires.0 c.requires.1
    c.build_normal_system_with_mapping-made.ensures
    c.built_number-row.ensures c.if-row-ne0.false _
    (c.copy_from_slice.ensures.after ∙ take_at _ _ _ whole)
