-- `scans::build_ends` meets its contract: after k turns the array holds the ends of the first k edges, and zeros. Assumes nothing.
use Rattle.scans.specs.Scans.{scan_ends}
use Rattle.scans.proofs.Strings.{Filled}
use Rattle.scans.proofs.build_ends.Given as goal

abbrev pub invariant-loop-k : goal.invariant-loop-k
invariant-loop-k l = Filled (scan_ends l.ids l.loops) 2 2050 0 l.ends l.k
