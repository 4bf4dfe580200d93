use Prim.Native.Nat.{◌*◌}
use native.Mathlib.Omega.{arith}
use mathlib.Core.Path.{ap, ◌∙◌}
use Rattle.graph.specs.Lent.{pose_from}
use Rattle.numbers.proofs.Filling.{nan_past}
use Rattle.graph.proofs.pose_at.Goals as goal

pub returns-then-x-ge-FAR : goal.returns-then-x-ge-FAR
returns-then-x-ge-FAR c = let a = c.args in c.no_pose.ensures ∙ ap pose_from (nan_past a.poses.now (a.x * 12) (omega arith))

pub returns : goal.returns
unfolding pose_from
returns c = rw (c.vec3_at-4.ensures, c.vec3_at-3.ensures, c.vec3_at-2.ensures, c.vec3_at.ensures)
