-- `job::take_records` meets its contract: at the loop's test, the lent numbers hold the job read so far. Assumes nothing.
use Prim.Native.Nat.{◌-◌}
use lib.ListN.{length}
use Rattle.job.specs.Lent.{held_in, SameLoans}
use Rattle.job.proofs.Held.{Held}
use Rattle.job.proofs.Lent.take_records.Given as goal

abbrev pub invariant-loop-d : goal.invariant-loop-d
invariant-loop-d l = SameLoans l.initial.self l.self × Held l.room l.s (held_in l.initial.self) l.c (held_in l.self)

abbrev pub decreases-loop-d : goal.decreases-loop-d
decreases-loop-d l = length l.s - l.c.at
