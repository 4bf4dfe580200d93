use Rattle.line.specs.Text.{ascii, decimal, refused_text}
use Rattle.line.proofs.Lines.{five_texts}
use Rattle.line.proofs.refused.Goals as goal

pub returns : goal.returns
unfolding refused_text
returns c =
    let a = c.args in
    rw (c.with_text-3.ensures, c.with_decimal-l-2.ensures, c.with_text-2.ensures, c.with_decimal-l.ensures, c.with_text.ensures, c.empty.ensures)
    (five_texts (ascii "refused ") (decimal a.number) (ascii " at ") (decimal a.place) (ascii "\n"))
