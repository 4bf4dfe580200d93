use Rattle.std.proofs.Common.{take, ◌≡◌}
use Rattle.line.specs.Text.{with_text}
use Rattle.line.proofs.with_text.Given as goal

abbrev pub invariant-loop-b : goal.invariant-loop-b
invariant-loop-b l = l.r ≡ with_text l.fn.l (take l.b-index l.text)
