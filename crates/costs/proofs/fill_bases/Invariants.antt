use Prim.Native.Nat.{◌≤◌, ◌-◌}
use mathlib.Core.Path.{◌≡◌}
use lib.ListN.{length}
use Rattle.costs.specs.Stowed.{with_bases}
use Rattle.costs.proofs.fill_bases.Given as goal

abbrev pub invariant-loop-x : goal.invariant-loop-x
invariant-loop-x l = (l.x ≤ l.x-end) × (length l.known ≡ length l.initial.known) × (l.known ≡ with_bases l.poses l.x l.initial.known)

abbrev pub decreases-loop-x : goal.decreases-loop-x
decreases-loop-x l = l.x-end - l.x
