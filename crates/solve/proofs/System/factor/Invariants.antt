-- The invariant: what is left to do from here gives what all of it gives from the start.
use mathlib.Core.Path.{◌≡◌}
use Prim.Native.Nat.{◌-◌}
use Rattle.solve.specs.forms.Profile.{rows_from}
use Rattle.solve.specs.forms.Systems.{Same}
use Rattle.solve.proofs.System.factor.Given as goal

abbrev pub invariant-loop-i : goal.invariant-loop-i
invariant-loop-i l = Same l.initial.self l.self
    × (rows_from l.initial.self.w.now l.initial.self.n l.initial.self.f l.damping 0 l.initial.self.n ≡ rows_from l.self.w.now l.initial.self.n l.initial.self.f l.damping l.i (l.initial.self.n - l.i))
