use mathlib.Core.Path.{refl, sym, ◌∙◌}
use lib.ListN.{length}
use Rattle.numbers.proofs.Steps.{passed, turned_away}
use Rattle.scans.specs.Scans.{scan}
use Rattle.exports.specs.Exported.{settings}
use Rattle.exports.specs.Closings.{scan_lists, close_out}
use Rattle.exports.proofs.Closings.{fit_closing, closed_told_lem}
use Rattle.exports.proofs.pgo_close_loops.Goals as goal

pub returns-then-not-closing_fits : goal.returns-then-not-closing_fits
unfolding close_out
returns-then-not-closing_fits c = turned_away _ c.closing_fits.ensures c.if-not-closing_fits.true-raw refl

pub put_closed-requires : goal.put_closed-requires
put_closed-requires c =
    let a = c.args in
    fit_closing (length a.gravity.now) (length a.answer.now) (length a.costs.now) (length a.measures.now)
    (sym c.closing_fits.ensures ∙ c.if-not-closing_fits.false)

pub returns : goal.returns
unfolding close_out
returns c =
    let a = c.args in
    let l = scan_lists a.work32.now a.work64.now a.original.now a.out.now a.answer.now a.costs.now a.measures.now in
    let s = scan a.ids.now a.poses.now a.loops.now a.loop_poses.now a.weight in
    let set = settings a.limit a.cost_tolerance a.gradient_tolerance a.damping in
    passed _ c.closing_fits.ensures c.if-not-closing_fits.false-raw
    (closed_told_lem a.weight set a.gravity.now s l c.gravity_from.ensures c.optimize_pose_graph-c.ensures
    c.put_closed.ensures)
