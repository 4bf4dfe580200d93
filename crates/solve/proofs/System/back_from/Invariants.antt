use mathlib.Core.Path.{◌≡◌}
use Prim.Native.Nat.{◌+◌, ◌-◌}
use Rattle.solve.specs.forms.Profile.{step_of, less_below}
use Rattle.solve.proofs.System.back_from.Given as goal

abbrev pub invariant-loop-k : goal.invariant-loop-k
invariant-loop-k l = l.s ≡ less_below l.self.w.now l.self.n l.self.f l.i (step_of l.self.w.now l.self.n l.i) (l.k - (l.i + 1))
