-- `printable::measures_at` meets its contract: each step is the definition. Assumes nothing.
use Rattle.printable.specs.Measures.{measures_of}
use Rattle.printable.proofs.measures_at.Goals as goal

pub returns : goal.returns
unfolding measures_of
returns c =
    rw (
      c.last_residual_norm-2.ensures,
      c.last_residual_norm.ensures,
      c.pose_graph_cost-2.ensures,
      c.pose_graph_cost.ensures,
    )
