use Rattle.std.proofs.Common.{◌≡◌, ◌+◌, ◌≤◌}
use Rattle.line.specs.FloatText.{raised, repeated}
use Rattle.line.proofs.raise_all.Given as goal

abbrev pub invariant-loop-i : goal.invariant-loop-i
invariant-loop-i l = (l.t ≡ repeated raised l._i l.initial.t) × (405 ≤ l.t.tens + l._i) × (l.t.tens ≤ 405)
