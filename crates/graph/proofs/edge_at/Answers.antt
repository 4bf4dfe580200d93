use Prim.Native.Nat.{◌*◌}
use native.Mathlib.Omega.{arith}
use mathlib.Core.Path.{ap, ◌∙◌}
use Rattle.graph.specs.Lent.{edge_from}
use Rattle.numbers.proofs.Filling.{nan_past}
use Rattle.graph.proofs.edge_at.Goals as goal

pub returns-then-k-ge-FAR : goal.returns-then-k-ge-FAR
returns-then-k-ge-FAR c = let a = c.args in c.no_edge.ensures ∙ ap edge_from (nan_past a.edges.now (a.k * 8) (omega arith))

pub returns : goal.returns
unfolding edge_from
returns c = rw (c.at.ensures, c.transform_at.ensures)
