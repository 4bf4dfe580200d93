use Prim.Native.Nat.{ℕ}
use mathlib.Core.Path.{◌≡◌, refl, ap, ◌∙◌}
use native.Mathlib.Omega.{arith}
use lib.ListN.{length}
use Rattle.costs.specs.Stowed.{with_bases}
use Rattle.costs.proofs.Stowing.{stowing_length, with_bases_more}
use Rattle.costs.proofs.fill_bases.Goals as goal

pub loop-x-init : goal.loop-x-init
unfolding with_bases
loop-x-init c = (omega arith, refl, refl)

pub loop-x-preserved : goal.loop-x-preserved
loop-x-preserved c = (
  omega arith,
  ap length c.stow.ensures ∙ stowing_length _ _ _ ∙ c.loop-x.invariant.1,
  with_bases_more _ c.loop-x.x _ c.loop-x.invariant.2 c.stow.ensures
      c.checked_pose_to_se3.ensures c.pose_at-p.ensures,
)

pub shape_of-known : goal.shape_of-known
shape_of-known c = c.loop-x.invariant.1

pub returns : goal.returns
returns c =
    let a = c.args in
    let e : c.loop-x.x ≡ c.known_poses-x-end.result = omega arith in
    c.loop-x.invariant.2 ∙ ap (λ (n : ℕ). with_bases a.poses.now n a.known.now) (e ∙ c.known_poses-x-end.ensures)
