use mathlib.Core.Path.{refl, sym, ◌∙◌}
use lib.ListN.{length}
use Rattle.checks.specs.Input.{lent}
use Rattle.numbers.proofs.Steps.{passed, turned_away}
use Rattle.exports.specs.Exported.{lists, room_of, exported}
use Rattle.exports.proofs.Telling.{fit_run, ran_told}
use Rattle.exports.proofs.run.Goals as goal

pub returns-then-not-run_fits : goal.returns-then-not-run_fits
unfolding exported
returns-then-not-run_fits c = turned_away _ c.run_fits.ensures c.if-not-run_fits.true-raw refl

pub put_answer-requires : goal.put_answer-requires
put_answer-requires c = fit_run (length c.args.answer.now) (length c.args.costs.now) (sym c.run_fits.ensures ∙ c.if-not-run_fits.false)

pub returns : goal.returns
unfolding exported
returns c =
    let a = c.args in
    let l = lists a.work32.now a.work64.now a.out.now a.answer.now a.costs.now in
    let i = lent a.m a.poses.now a.ends.now a.edges.now a.fixed.now a.set (room_of l) in
    passed _ c.run_fits.ensures c.if-not-run_fits.false-raw
    (ran_told i l c.sparse_pose_graph_optimize-a.ensures c.put_answer.ensures)
