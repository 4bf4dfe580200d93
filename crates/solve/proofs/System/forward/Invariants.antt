use mathlib.Core.Path.{◌≡◌}
use Rattle.solve.specs.forms.Profile.{forward_from}
use Rattle.solve.specs.forms.Systems.{Same}
use Rattle.solve.proofs.System.forward.Given as goal

abbrev pub invariant-loop-i : goal.invariant-loop-i
invariant-loop-i l = Same l.initial.self l.self × (l.self.w.now ≡ forward_from l.initial.self.w.now l.initial.self.n l.initial.self.f l.i)
