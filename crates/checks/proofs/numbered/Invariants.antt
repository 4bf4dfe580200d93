use mathlib.Core.List.{[]}
use mathlib.Core.Path.{◌≡◌}
use Rattle.numbers.specs.Walks.{count, table}
use Rattle.graph.specs.Graph.{is_free}
use Rattle.graph.specs.Lent.{none}
use Rattle.checks.specs.Input.{lent_graph}
use Rattle.checks.specs.Table.{block_number}
use Rattle.numbers.proofs.Filling.{filled}
use Rattle.checks.proofs.numbered.Given as goal

abbrev pub invariant-loop-x : goal.invariant-loop-x
invariant-loop-x l =
    let g = lent_graph [] l.ends [] l.fixed in
    (l.at ≡ table (filled (block_number g) none l.x) 256) × (l.free ≡ count (is_free g) l.x)
