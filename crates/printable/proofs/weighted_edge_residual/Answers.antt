-- `printable::weighted_edge_residual` meets its contract: each step is the definition. Assumes nothing.
use Rattle.printable.proofs.weighted_edge_residual.Goals as goal

pub returns : goal.returns
returns c =
    rw (
      c.weighted_relative_residual.ensures,
      c.edge_at.ensures,
      c.pose_at-2.ensures,
      c.pose_at.ensures,
      c.index_at-b.ensures,
      c.index_at-a.ensures,
    )
