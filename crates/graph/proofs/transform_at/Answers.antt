use native.Mathlib.Nat.{add-zero}
use Rattle.graph.specs.Lent.{edge_from}
use Rattle.graph.proofs.transform_at.Goals as goal

pub returns : goal.returns
unfolding edge_from
returns c =
    rw (
      c.at-7.ensures,
      c.at-6.ensures,
      c.at-5.ensures,
      c.at-4.ensures,
      c.at-3.ensures,
      c.at-2.ensures,
      c.at.ensures,
      add-zero c.args.at,
    )
