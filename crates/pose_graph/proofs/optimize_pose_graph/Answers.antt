-- `pose_graph::optimize_pose_graph` meets its contract: rows 33 and 34 speak first, and the first 1,025 edges are as good as all. Assumes nothing.
use mathlib.Core.Path.{sym, ◌∙◌}
use lib.ListN.{length}
use lib.Seq.{length-take-le}
use Rattle.numbers.proofs.Question.{handed_on}
use Rattle.scans.specs.Scans.{scan}
use Rattle.pose_graph.proofs.Large.{at_built, ends_front, edges_front, original_long}
use Rattle.pose_graph.proofs.Promises.{turned_down, run_if_fine}
use Rattle.pose_graph.proofs.optimize_pose_graph.Goals as goal

pub returns-in_err-validate_scan : goal.returns-in_err-validate_scan
returns-in_err-validate_scan c =
    rw (handed_on _ c.from_residual.ensures.1)
    (sym (turned_down _ _ _ _ _ _ _ (sym c.validate_scan.ensures ∙ c.in_err-validate_scan.was)))

pub slice_bounds-run_and_judge-end : goal.slice_bounds-run_and_judge-end
slice_bounds-run_and_judge-end c =
    let a = c.args in
    let s = scan a.ids.now a.poses.now a.loops.now a.loop_poses.now a.config.loop_edge_weight in
    sym (length-take-le _ _ (ends_front s _ c.edges_built-n.ensures _ c.build_ends.ensures))

pub slice_bounds-run_and_judge-end-2 : goal.slice_bounds-run_and_judge-end-2
slice_bounds-run_and_judge-end-2 c =
    let a = c.args in
    let s = scan a.ids.now a.poses.now a.loops.now a.loop_poses.now a.config.loop_edge_weight in
    sym (length-take-le _ _ (edges_front s _ c.edges_built-n.ensures _ c.build_edges.ensures))

pub run_and_judge-requires : goal.run_and_judge-requires
run_and_judge-requires c =
    let a = c.args in
    original_long a.ids.now a.loops.now (length a.poses.now) (length a.loop_poses.now) (length a.original.now)
    (sym c.validate_scan.ensures ∙ c.in_ok-validate_scan.was)

pub returns : goal.returns
returns c =
    let a = c.args in
    let s = scan a.ids.now a.poses.now a.loops.now a.loop_poses.now a.config.loop_edge_weight in
    c.run_and_judge.ensures
    ∙ at_built _ _ _ s _ _ _ _ _ _ _ c.edges_built-n.ensures c.build_ends.ensures c.build_edges.ensures
    ∙ sym (run_if_fine _ _ _ _ _ _
    (sym c.validate_scan.ensures ∙ c.in_ok-validate_scan.was))
