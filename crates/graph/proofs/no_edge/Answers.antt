use mathlib.Core.Path.{refl}
use lib.Ieee.{of_bits, div}
use Rattle.graph.specs.Lent.{edge_from}
use Rattle.graph.proofs.no_edge.Goals as goal

pub returns : goal.returns
unfolding edge_from of_bits div
returns c = refl
