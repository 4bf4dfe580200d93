use Rattle.line.proofs.FloatLaws.{point_among}
use Rattle.line.proofs.with_point.Goals as goal

pub returns : goal.returns
returns c = rw (c.with_text-2.ensures, c.with_text-l.ensures, c.with_text.ensures) (point_among _ _ _ _ c.digits_text-digits.ensures)
