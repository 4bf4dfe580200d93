use mathlib.Core.Path.{◌≡◌}
use Prim.Native.Nat.{◌+◌, ◌-◌, ◌≤◌}
use Rattle.solve.specs.forms.Profile.{less_at}
use Rattle.solve.proofs.less.Given as goal

abbrev pub invariant-loop-k : goal.invariant-loop-k
invariant-loop-k l = (l.k - l.a ≤ l.m - l.a) × (l.s ≡ less_at l.w l.v (l.p + l.a) (l.q + l.a) (l.k - l.a))
