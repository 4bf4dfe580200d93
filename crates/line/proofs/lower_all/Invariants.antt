use Rattle.std.proofs.Common.{◌≡◌, ◌+◌, ◌≤◌}
use Rattle.line.specs.FloatText.{lowered, repeated}
use Rattle.line.proofs.lower_all.Given as goal

abbrev pub invariant-loop-i : goal.invariant-loop-i
invariant-loop-i l = (l.t ≡ repeated lowered l._i l.initial.t) × (l.t.tens ≤ 405 + l._i)
