use mathlib.Core.List.{[]}
use Rattle.std.specs.Prelude.{Ok}
use mathlib.Core.Path.{◌≡◌}
use Rattle.numbers.specs.Refusals.{lowest}
use Rattle.checks.specs.Input.{lent_graph}
use Rattle.checks.specs.Table.{edge_faults}
use Rattle.checks.proofs.edge_rows.Given as goal

abbrev pub invariant-loop-k : goal.invariant-loop-k
invariant-loop-k l = lowest (edge_faults (lent_graph l.poses l.ends l.edges [])) l.k ≡ Ok tt
