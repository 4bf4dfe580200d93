use Rattle.line.proofs.FloatLaws.{power_below, power_above}
use Rattle.line.proofs.with_power.Goals as goal

pub returns-then-tens-lt-UNIT_PLACE : goal.returns-then-tens-lt-UNIT_PLACE
returns-then-tens-lt-UNIT_PLACE c = rw (c.with_decimal.ensures, c.with_text.ensures, c.with_point-l.ensures) (power_below _ _ c.if-tens-lt-UNIT_PLACE.true)

pub returns : goal.returns
returns c = rw (c.with_decimal-2.ensures, c.with_text-2.ensures, c.with_point-l.ensures) (power_above _ _ c.if-tens-lt-UNIT_PLACE.false)
