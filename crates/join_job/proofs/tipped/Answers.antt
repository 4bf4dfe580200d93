-- Two texts and a number between them, one behind another, are the line. Assumes nothing.
use Rattle.line.specs.Text.{ascii}
use Rattle.line.specs.FloatText.{float_text}
use Rattle.join_job.specs.Joining.{printable_text}
use Rattle.join_job.proofs.Spoken.{three_texts}
use Rattle.join_job.proofs.tipped.Goals as goal

pub returns : goal.returns
unfolding printable_text
returns c =
    rw (c.with_text.ensures, c.with_float.ensures, c.with_text-l.ensures, c.empty.ensures)
    (three_texts (ascii "may be printed: no, gravity tipped (smallest cosine ") (float_text c.args.cosine)
    (ascii ", least 0.999999995)\n"))
