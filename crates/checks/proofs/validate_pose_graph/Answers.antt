use Rattle.checks.specs.Table.{graph_checks}
use Rattle.checks.specs.Input.{lent, unset}
use Rattle.checks.proofs.Answers.{blocks_same}
use Rattle.checks.proofs.validate_pose_graph.Goals as goal

pub returns : goal.returns
unfolding graph_checks
returns c =
    let a = c.args in
    let i = lent a.manifold a.poses.now a.ends.now a.edges.now a.fixed.now unset a.room in
    rw (c.graph_answer-answer.ensures, blocks_same i _ _ c.numbered-numbered.ensures)
