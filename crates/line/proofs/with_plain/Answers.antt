use Rattle.std.proofs.Common.{◌∙◌}
use Rattle.line.proofs.FloatLaws.{plain_zeros, plain_whole, plain_point}
use Rattle.line.proofs.with_plain.Goals as goal

pub returns-then-tens-lt-UNIT_PLACE : goal.returns-then-tens-lt-UNIT_PLACE
returns-then-tens-lt-UNIT_PLACE c =
    rw (c.with_text-then-tens-lt-UNIT_PLACE.ensures, c.with_text-l.ensures, c.with_text.ensures)
    (plain_zeros _ _ _ c.digits_text-digits.ensures c.if-tens-lt-UNIT_PLACE.true)

pub returns-then-tens : goal.returns-then-tens
returns-then-tens c = c.with_text-then-tens.ensures ∙ plain_whole _ _ _ c.digits_text-digits.ensures c.if-tens-lt-UNIT_PLACE.false c.if-tens.true

pub returns : goal.returns
returns c = rw c.with_point.ensures (plain_point _ _ c.if-tens-lt-UNIT_PLACE.false c.if-tens.false)
