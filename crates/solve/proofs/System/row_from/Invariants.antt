use mathlib.Core.Path.{◌≡◌}
use Prim.Native.Nat.{◌-◌, ◌≤◌}
use Rattle.solve.specs.forms.Profile.{row_from}
use Rattle.solve.specs.forms.Systems.{Same}
use Rattle.solve.proofs.System.row_from.Given as goal

abbrev pub invariant-loop-j : goal.invariant-loop-j
invariant-loop-j l = (l.j - l.s ≤ l.i - l.s) × Same l.initial.self l.self × (l.self.w.now ≡ row_from l.initial.self.w.now l.initial.self.n l.initial.self.f l.i (l.j - l.s))
