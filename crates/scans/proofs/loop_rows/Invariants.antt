-- `scans::loop_rows` meets its contract: at the loop's test, no loop below k names an absent keyframe. Assumes nothing.
use Rattle.std.specs.Prelude.{Ok}
use mathlib.Core.Path.{◌≡◌}
use Rattle.numbers.specs.Refusals.{lowest}
use Rattle.scans.specs.ScanRows.{loop_faults}
use Rattle.scans.proofs.loop_rows.Given as goal

abbrev pub invariant-loop-k : goal.invariant-loop-k
invariant-loop-k l = lowest (loop_faults l.ids l.loops) l.k ≡ Ok tt
