use mathlib.Core.Path.{◌≡◌}
use Rattle.numbers.specs.Walks.{table}
use Rattle.checks.proofs.Marks.{named_by}
use Rattle.checks.proofs.named.Given as goal

abbrev pub invariant-loop-k : goal.invariant-loop-k
invariant-loop-k l = l.marks ≡ table (named_by l.ends l.k) 256
