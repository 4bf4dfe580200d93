-- `pose_graph::run_and_judge` meets its contract: the run's answer, or what is measured at its poses with the originals copied. Assumes nothing.
use mathlib.Core.Path.{◌∙◌}
use mathlib.Core.List.{[], ◌∷◌}
use Rattle.numbers.proofs.Question.{handed_on}
use Rattle.slices.proofs.Laws.{copied_whole}
use Rattle.pose_graph.proofs.EdgesAlone.{result_alone, close_refused, close_joined}
use Rattle.pose_graph.proofs.run_and_judge.Goals as goal

pub returns-in_err-run : goal.returns-in_err-run
returns-in_err-run c =
    rw (handed_on _ c.from_residual.ensures.1)
    (close_refused _ _ _ _ _ _ _ _ _ c.sparse_pose_graph_optimize.ensures _ c.in_err-run.was)

pub returns : goal.returns
returns c =
    let a = c.args in
    close_joined _ _ _ _ _ _ _ _ _ c.sparse_pose_graph_optimize.ensures _ _ _ c.in_ok-run.was
    (c.result_of.ensures ∙ result_alone _ a.poses.now a.ends.now a.edges.now (0 ∷ []) _ _)
    (c.copy.ensures ∙ copied_whole a.poses.now a.original.now c.requires)
