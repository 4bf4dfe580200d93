use Rattle.std.proofs.Common.{refl, arith}
use lib.Ieee.{of_bits}
use Rattle.numbers.specs.Notation.{ratio}
use Rattle.numbers.proofs.Choices.{taken, left}
use Rattle.line.specs.FloatText.{lowered}
use Rattle.line.proofs.lower.Goals as goal

pub returns-then-s : goal.returns-then-s
unfolding lowered ratio of_bits
returns-then-s c = (taken _ c.if-s.true refl, omega arith)

pub returns : goal.returns
unfolding lowered ratio of_bits
returns c = (left _ c.if-s.false refl, omega arith)
