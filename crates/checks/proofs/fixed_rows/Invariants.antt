use Rattle.std.specs.Prelude.{Ok}
use mathlib.Core.Path.{◌≡◌}
use Rattle.numbers.specs.Refusals.{lowest}
use Rattle.rows.specs.Tests.{fixed_faults}
use Rattle.checks.proofs.fixed_rows.Given as goal

abbrev pub invariant-loop-k : goal.invariant-loop-k
invariant-loop-k l = lowest (fixed_faults l.n l.fixed) l.k ≡ Ok tt
