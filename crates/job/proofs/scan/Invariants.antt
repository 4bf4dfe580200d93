-- `job::scan` meets its contract: at the loop's test, reading as a whole is reading from the cursor on. Assumes nothing.
use Prim.Native.Nat.{◌-◌}
use lib.ListN.{length}
use Rattle.job.proofs.Held.{Seen}
use Rattle.job.proofs.scan.Given as goal

abbrev pub invariant-loop-d : goal.invariant-loop-d
invariant-loop-d l = Seen l.room l.s l.c

abbrev pub decreases-loop-d : goal.decreases-loop-d
decreases-loop-d l = length l.s - l.c.at
