use Rattle.printable.proofs.Measuring.{cosine_none, cosine_more}
use mathlib.Core.Path.{◌≡◌, ◌∙◌, ap}
use Prim.Native.Nat.{◌-◌, ◌/◌}
use native.Mathlib.Omega.{arith}
use lib.ListN.{length}
use Rattle.graph.specs.Lent.{pose_at}
use Rattle.printable.specs.Measures.{smallest_cosine}
use Rattle.printable.proofs.smallest_cosine.Goals as goal

pub loop-x-init : goal.loop-x-init
loop-x-init c = cosine_none _ _ _

pub loop-x-preserved : goal.loop-x-preserved
loop-x-preserved c =
    let a = c.args in
    rw (c.smaller-least.ensures, c.gravity_cosine-cosine.ensures, c.pose_at-in-loop-x.ensures, c.pose_at.ensures)
    (cosine_more a.g (pose_at a.before.now) (pose_at a.after.now) c.loop-x.x c.loop-x.invariant)

pub returns : goal.returns
returns c =
    let a = c.args in
    let e : c.loop-x.x ≡ length a.before.now / 12 = omega arith in
    c.loop-x.invariant ∙ ap (λ n. smallest_cosine a.g n (pose_at a.before.now) (pose_at a.after.now)) e
