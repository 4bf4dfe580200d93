use mathlib.Core.Path.{◌≡◌, refl, sym, ap, ◌∙◌}
use lib.Dec.{eqb}
use lib.ListN.{length}
use borrow.Author.Tests.{eqb-true}
use Rattle.numbers.proofs.Tests.{and_second}
use Rattle.graph.specs.declared.Manifold.TheVariants.{Se3}
use Rattle.retraction.specs.Retraction.{retract_of}
use Rattle.numbers.proofs.Steps.{passed, turned_away}
use Rattle.exports.specs.Layers.{pose, restored_out, retract_out}
use Rattle.exports.proofs.Steps.{first_six_do, one_pose_lem}
use Rattle.slices.proofs.Laws.{copied_as}
use Rattle.exports.proofs.pgo_retract.Goals as goal

pub returns-then-not-pose-delta : goal.returns-then-not-pose-delta
unfolding retract_out
returns-then-not-pose-delta c = turned_away _ refl c.if-not-pose-delta.true-raw refl

pub returns-in_default : goal.returns-in_default
unfolding retract_out
returns-in_default c =
    let found : (let a = c.args in c.retract.result ≡ retract_of Se3 (pose a.pose.now) a.delta.now) = c.retract.ensures ∙ rw (c.step_from.ensures, c.pose_at-p.ensures, one_pose_lem) (first_six_do _ _ _) in
    passed _ refl c.if-not-pose-delta.false-raw (ap (restored_out c.args.out.now) (sym c.in_default.is ∙ found))

pub slice_bounds-copy-end : goal.slice_bounds-copy-end
slice_bounds-copy-end c = sym (ap length c.numbers_of.ensures)

pub returns : goal.returns
unfolding retract_out
returns c =
    let found : (let a = c.args in c.retract.result ≡ retract_of Se3 (pose a.pose.now) a.delta.now) = c.retract.ensures ∙ rw (c.step_from.ensures, c.pose_at-p.ensures, one_pose_lem) (first_six_do _ _ _) in
    passed _ refl c.if-not-pose-delta.false-raw
    (rw (copied_as _ c.args.out.now c.numbers_of.ensures
    (eqb-true _ _ (and_second (eqb (length c.args.delta.now) 6) _
    (and_second (eqb (length c.args.pose.now) 12) _ c.if-not-pose-delta.false))) c.copy.ensures)
    (ap (restored_out c.args.out.now) (sym c.in-Ok.is ∙ found)))
