use Rattle.line.proofs.FloatLaws.{by_digits}
use Rattle.line.proofs.digits_text.Goals as goal

pub returns : goal.returns
returns c =
    rw (c.digit_byte-6.ensures, c.digit_byte-5.ensures, c.digit_byte-4.ensures, c.digit_byte-3.ensures, c.digit_byte-2.ensures, c.digit_byte.ensures) (by_digits _)
