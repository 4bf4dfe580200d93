use mathlib.Core.Path.{◌≡◌, refl, sym, ap, ◌∙◌}
use lib.Dec.{eqb}
use lib.ListN.{length}
use borrow.Author.Tests.{eqb-true}
use Rattle.numbers.proofs.Tests.{and_second}
use Rattle.graph.specs.declared.Manifold.TheVariants.{Gravity}
use Rattle.retraction.specs.Retraction.{retract_of}
use Rattle.numbers.proofs.Steps.{passed, turned_away}
use Rattle.exports.specs.Layers.{three, pose, restored_out, retract_gravity_out}
use Rattle.exports.proofs.Steps.{first_six_do, one_pose_lem}
use Rattle.slices.proofs.Laws.{copied_as}
use Rattle.exports.proofs.pgo_retract_with_gravity.Goals as goal

pub returns-then-not-g-pose : goal.returns-then-not-g-pose
unfolding retract_gravity_out
returns-then-not-g-pose c = turned_away _ refl c.if-not-g-pose.true-raw refl

pub returns-in_default : goal.returns-in_default
unfolding retract_gravity_out
returns-in_default c =
    let found : (let a = c.args in c.retract.result ≡ retract_of (Gravity (three a.g.now)) (pose a.pose.now) a.delta.now) = c.retract.ensures ∙ rw (c.step_from.ensures, c.pose_at-p.ensures, c.vec_from.ensures, one_pose_lem) (first_six_do _ _ _) in
    passed _ refl c.if-not-g-pose.false-raw (ap (restored_out c.args.out.now) (sym c.in_default.is ∙ found))

pub slice_bounds-copy-end : goal.slice_bounds-copy-end
slice_bounds-copy-end c = sym (ap length c.numbers_of.ensures)

pub returns : goal.returns
unfolding retract_gravity_out
returns c =
    let found : (let a = c.args in c.retract.result ≡ retract_of (Gravity (three a.g.now)) (pose a.pose.now) a.delta.now) = c.retract.ensures ∙ rw (c.step_from.ensures, c.pose_at-p.ensures, c.vec_from.ensures, one_pose_lem) (first_six_do _ _ _) in
    passed _ refl c.if-not-g-pose.false-raw
    (rw (copied_as _ c.args.out.now c.numbers_of.ensures
    (eqb-true _ _ (and_second (eqb (length c.args.delta.now) 4) _
    (and_second (eqb (length c.args.pose.now) 12) _ (and_second (eqb (length c.args.g.now) 3) _ c.if-not-g-pose.false))))
    c.copy.ensures)
    (ap (restored_out c.args.out.now) (sym c.in-Ok.is ∙ found)))
