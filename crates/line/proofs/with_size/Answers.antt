use Rattle.std.proofs.Common.{refl, ap, ◌∙◌}
use lib.Ieee.{of_bits, div}
use Rattle.numbers.specs.Notation.{ratio}
use Rattle.numbers.proofs.Choices.{taken, left}
use Rattle.line.specs.Text.{with_text}
use Rattle.line.specs.FloatText.{size_text}
use Rattle.line.proofs.with_size.Goals as goal

pub returns-then-x : goal.returns-then-x
unfolding size_text ratio of_bits
returns-then-x c = c.with_text.ensures ∙ ap (with_text _) (taken _ c.if-x.true refl)

pub returns-then-x-2 : goal.returns-then-x-2
unfolding size_text ratio of_bits div
returns-then-x-2 c =
    rw (c.with_six.ensures, c.rounded_six.ensures.0, c.by_tens.ensures.0)
    (ap (with_text _) (left _ c.if-x.false (taken _ c.if-x-2.true refl)))

pub returns : goal.returns
unfolding size_text ratio of_bits div
returns c = c.with_text-2.ensures ∙ ap (with_text _) (left _ c.if-x.false (left _ c.if-x-2.false refl))
