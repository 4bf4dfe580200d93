-- Three texts and two numbers, one behind another, are the line. Assumes nothing.
use Rattle.line.specs.Text.{ascii}
use Rattle.line.specs.FloatText.{float_text}
use Rattle.line.proofs.Lines.{five_texts}
use Rattle.join_job.proofs.with_two.Goals as goal

pub returns : goal.returns
returns c =
    let a = c.args in
    rw (
      c.with_text-3.ensures,
      c.with_float-l-2.ensures,
      c.with_text-2.ensures,
      c.with_float-l.ensures,
      c.with_text.ensures,
      c.empty.ensures,
    )
    (five_texts a.text.now (float_text a.before) (ascii ", after ") (float_text a.after) (ascii ")\n"))
