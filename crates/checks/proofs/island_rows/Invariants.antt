use Rattle.std.specs.Prelude.{Ok}
use mathlib.Core.Path.{◌≡◌}
use Rattle.numbers.specs.Refusals.{lowest}
use Rattle.checks.specs.Labels.{label_faults}
use Rattle.checks.proofs.island_rows.Given as goal

abbrev pub invariant-loop-x : goal.invariant-loop-x
invariant-loop-x l = lowest (label_faults l.labels) l.x ≡ Ok tt
