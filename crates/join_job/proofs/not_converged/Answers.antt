-- Three texts and two numbers, one behind another, are the line. Assumes nothing.
use Rattle.line.specs.Text.{ascii, decimal}
use Rattle.line.proofs.Lines.{five_texts}
use Rattle.join_job.specs.Joining.{printable_text}
use Rattle.join_job.proofs.not_converged.Goals as goal

pub returns : goal.returns
unfolding printable_text
returns c =
    let a = c.args in
    rw (
      c.with_text.ensures,
      c.with_decimal-2.ensures,
      c.from-2.ensures,
      c.with_text-l-2.ensures,
      c.with_decimal.ensures,
      c.from.ensures,
      c.with_text-l.ensures,
      c.empty.ensures,
    )
    (five_texts (ascii "may be printed: no, not converged (iterations ") (decimal a.iterations) (ascii ", limit ") (decimal a.limit) (ascii ")\n"))
