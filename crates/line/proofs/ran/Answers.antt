use Rattle.line.specs.Text.{ascii, decimal, yes_no, ran_text}
use Rattle.line.proofs.Lines.{nine_texts}
use Rattle.line.proofs.ran.Goals as goal

pub returns : goal.returns
unfolding ran_text
returns c =
    let a = c.args in
    rw (
      c.with_text-5.ensures,
      c.with_yes_or_no-l.ensures,
      c.with_text-4.ensures,
      c.with_decimal-l-3.ensures,
      c.with_text-3.ensures,
      c.with_decimal-l-2.ensures,
      c.with_text-2.ensures,
      c.with_decimal-l.ensures,
      c.with_text.ensures,
      c.empty.ensures,
    )
    (nine_texts (ascii "poses ") (decimal a.poses) (ascii " edges ") (decimal a.edges) (ascii " iterations ") (decimal a.iterations)
    (ascii " converged ") (yes_no a.converged) (ascii "\n"))
