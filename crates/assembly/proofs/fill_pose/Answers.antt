use mathlib.Core.Path.{sym, subst}
use Prim.Native.Nat.{ℕ, ◌≤◌}
use Rattle.graph.proofs.Degrees.{dof_most}
use Rattle.assembly.proofs.Knowing.{probed_stance, posed_fixed, posed_free}
use Rattle.assembly.proofs.fill_pose.Goals as goal

pub fill_probes-requires : goal.fill_probes-requires
fill_probes-requires c =
    let pre = c.requires in
    (pre.0, subst (λ (d : ℕ). d ≤ 6) (sym c.dof.ensures) (dof_most c.args.m), pre.2)

pub returns-in_default : goal.returns-in_default
returns-in_default c = posed_fixed _ _ c.args.slot _ _ c.in_default.is

pub returns-in-Some : goal.returns-in-Some
returns-in-Some c =
    posed_free _ _ c.args.slot _ _ _ c.in-Some.is
    (probed_stance _ _ _ _
    c.requires.3
    c.requires.1
    c.known_poses.ensures
    c.base_at-base.ensures
    c.pose_at.ensures
    c.stance_of-stance.ensures
    c.dof.ensures
    c.fill_probes.ensures)
