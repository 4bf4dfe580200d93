use mathlib.Core.Path.{◌∙◌}
use Rattle.checks.specs.Input.{lent}
use Rattle.checks.specs.Table.{graph_checks}
use Rattle.checks.proofs.Answers.{settings_alone, checked_all}
use Rattle.checks.proofs.validate_optimizer_inputs.Goals as goal

pub returns : goal.returns
unfolding graph_checks
returns c =
    let a = c.args in
    let i = lent a.manifold a.poses.now a.ends.now a.edges.now a.fixed.now a.settings a.room in
    rw (c.settings_answer-answer.ensures, c.validate_pose_graph-graph.ensures ∙ settings_alone i) (checked_all i)
