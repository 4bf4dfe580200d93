-- The invariant: what is left to do from here leaves what all of it leaves from the start.
use mathlib.Core.Path.{◌≡◌}
use Rattle.solve.specs.forms.Profile.{backward_from}
use Rattle.solve.specs.forms.Systems.{Same}
use Rattle.solve.proofs.System.backward.Given as goal

abbrev pub invariant-loop-i : goal.invariant-loop-i
invariant-loop-i l = Same l.initial.self l.self
    × (backward_from l.initial.self.w.now l.initial.self.n l.initial.self.f l.initial.self.n ≡ backward_from l.self.w.now l.initial.self.n l.initial.self.f l.i)
