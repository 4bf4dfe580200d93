use mathlib.Core.Path.{refl}
use lib.Ieee.{of_bits, ne}
use Rattle.numbers.specs.Notation.{ratio}
use Rattle.graph.specs.Lent.{edge_from}
use Rattle.checks.specs.Islands.{weighs}
use Rattle.checks.proofs.has_weight.Goals as goal

pub returns : goal.returns
unfolding weighs ratio of_bits edge_from ne
returns c = rw c.edge_at-e.ensures refl
