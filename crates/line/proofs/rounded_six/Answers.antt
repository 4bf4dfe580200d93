use Rattle.std.proofs.Common.{arith}
use lib.Ieee.{of_bits}
use Rattle.numbers.specs.Notation.{ratio}
use Rattle.line.proofs.FloatLaws.{six_kept, six_more}
use Rattle.line.proofs.rounded_six.Goals as goal

pub returns-then-whole-lt1000000 : goal.returns-then-whole-lt1000000
unfolding ratio of_bits
returns-then-whole-lt1000000 c = (six_kept _ _ c.whole_part-whole.ensures c.if-whole-lt1000000.true, omega arith)

pub returns : goal.returns
unfolding ratio of_bits
returns c = (six_more _ _ c.whole_part-whole.ensures c.if-whole-lt1000000.false, omega arith)
