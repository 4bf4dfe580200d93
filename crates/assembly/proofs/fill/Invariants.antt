use Prim.Native.Nat.{◌≤◌, ◌-◌}
use Rattle.graph.specs.Lent.{links_lent}
use Rattle.assembly.specs.Known.{Ready}
use Rattle.assembly.proofs.fill.Given as goal

abbrev pub invariant-loop-x : goal.invariant-loop-x
invariant-loop-x l = (l.x ≤ 256) × Ready l.m l.poses (links_lent l.links).slot l.known l.x

abbrev pub decreases-loop-x : goal.decreases-loop-x
decreases-loop-x l = 256 - l.x
