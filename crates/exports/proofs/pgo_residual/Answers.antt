use mathlib.Core.Path.{◌≡◌, refl, sym, ap, ◌∙◌}
use lib.Dec.{eqb}
use lib.ListN.{length}
use borrow.Author.Tests.{eqb-true}
use Rattle.numbers.proofs.Tests.{and_second}
use Rattle.residual.specs.Residuals.{residual_of}
use Rattle.numbers.proofs.Steps.{passed, turned_away}
use Rattle.exports.specs.Layers.{pose, edge, six_out, residual_out}
use Rattle.exports.proofs.Steps.{one_pose_lem, one_edge_lem}
use Rattle.slices.proofs.Laws.{copied_as}
use Rattle.exports.proofs.pgo_residual.Goals as goal

pub returns-then-not-a-b : goal.returns-then-not-a-b
unfolding residual_out
returns-then-not-a-b c = turned_away _ refl c.if-not-a-b.true-raw refl

pub returns-in_default : goal.returns-in_default
unfolding residual_out
returns-in_default c =
    let found : (let a = c.args in c.weighted_relative_residual.result ≡ residual_of (pose a.a.now) (pose a.b.now) (edge a.edge.now)) = c.weighted_relative_residual.ensures
    ∙ rw (
      c.edge_at-e.ensures,
      c.pose_at-q.ensures,
      c.pose_at-p.ensures,
      one_pose_lem c.args.a.now,
      one_pose_lem
          c.args.b.now,
      one_edge_lem,
    ) in
    passed _ refl c.if-not-a-b.false-raw (ap (six_out c.args.out.now) (sym c.in_default.is ∙ found))

pub slice_bounds-copy-end : goal.slice_bounds-copy-end
slice_bounds-copy-end c = sym (ap length c.six_of.ensures)

pub returns : goal.returns
unfolding residual_out
returns c =
    let found : (let a = c.args in c.weighted_relative_residual.result ≡ residual_of (pose a.a.now) (pose a.b.now) (edge a.edge.now)) = c.weighted_relative_residual.ensures
    ∙ rw (
      c.edge_at-e.ensures,
      c.pose_at-q.ensures,
      c.pose_at-p.ensures,
      one_pose_lem c.args.a.now,
      one_pose_lem
          c.args.b.now,
      one_edge_lem,
    ) in
    passed _ refl c.if-not-a-b.false-raw
    (rw (copied_as _ c.args.out.now c.six_of.ensures
    (eqb-true _ _ (and_second (eqb (length c.args.edge.now) 8) _
    (and_second (eqb (length c.args.b.now) 12) _ (and_second (eqb (length c.args.a.now) 12) _ c.if-not-a-b.false))))
    c.copy.ensures)
    (ap (six_out c.args.out.now) (sym c.in-Ok.is ∙ found)))
