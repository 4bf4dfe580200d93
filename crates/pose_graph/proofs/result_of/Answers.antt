-- `pose_graph::result_of` meets its contract: the measures and the tests are those of `printable`. Assumes nothing.
use mathlib.Core.Path.{◌∙◌}
use mathlib.Core.List.{[]}
use Rattle.pose_graph.specs.Closing.{result_for}
use Rattle.pose_graph.proofs.EdgesAlone.{edges_alone}
use Rattle.pose_graph.proofs.result_of.Goals as goal

pub returns : goal.returns
unfolding result_for
returns c =
    let a = c.args in
    let same = c.measures_at-measures.ensures ∙ edges_alone a.poses.now a.ends.now a.edges.now [] _ _ in
    rw (c.is_usable.ensures, c.gravity_preserved-preserved.ensures, same)
