-- The loop's invariant: after i turns, i squarings.
use mathlib.Core.Path.{◌≡◌}
use Prim.Native.Nat.{◌-◌, ◌≤◌}
use Rattle.exp_log.specs.ExpLog.{squarings}
use Rattle.exp_log.proofs.seven_times.Given as goal

abbrev pub invariant-loop-i : goal.invariant-loop-i
invariant-loop-i l = (l.i ≤ 7) × (l.p ≡ squarings l.i l.initial.p)

abbrev pub decreases-loop-i : goal.decreases-loop-i
decreases-loop-i l = 7 - l.i
