use Rattle.std.proofs.Common.{rules}
use Rattle.numbers.specs.Notation.{if_then}
use Rattle.line.specs.Text.{with_byte}
use Rattle.line.proofs.with_byte.Goals as goal

pub returns-then-l-lt256 : goal.returns-then-l-lt256
unfolding with_byte if_then
returns-then-l-lt256 c = search rules

pub returns-else-l-lt256 : goal.returns-else-l-lt256
unfolding with_byte if_then
returns-else-l-lt256 c = search rules
