use Prim.Native.Nat.{◌/◌}
use mathlib.Core.Path.{◌≡◌}
use lib.ListN.{length}
use Rattle.numbers.specs.Walks.{table}
use Rattle.checks.proofs.Marks.{named_by, left_by}
use Rattle.checks.proofs.free_poses.Given as goal

abbrev pub invariant-loop-x : goal.invariant-loop-x
invariant-loop-x l = l.marks ≡ table (left_by (named_by l.ends (length l.ends / 2)) l.fixed l.x-index) 256
