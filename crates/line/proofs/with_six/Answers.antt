use Rattle.std.proofs.Common.{◌≡◌, ◌||◌, true, false, ltb, refl, ap, ◌∙◌, le-ltb, lt-ltb}
use Rattle.numbers.proofs.Choices.{taken, left}
use Rattle.line.specs.Text.{with_text}
use Rattle.line.specs.FloatText.{six_text}
use Rattle.line.proofs.with_six.Goals as goal
use Rattle.line.proofs.with_six.Goals.{then-tens-via-then-tens, then-tens-via-else-tens+then-tens-2}

pub returns-then-tens : goal.returns-then-tens
unfolding six_text
returns-then-tens c =
    let t = c.args.d.tens in
    let either : ltb t 396 || ltb 405 t ≡ true
    = elim c.then-tens.branch [
      | then-tens-via-then-tens w ↦ rw (lt-ltb t 396 w.if-tens.true)
      | then-tens-via-else-tens+then-tens-2 w ↦ rw (le-ltb t 396 w.if-tens.false, lt-ltb 405 t w.if-tens-2.true)
    ] in
    c.with_power.ensures ∙ ap (with_text _) (taken _ either refl)

pub returns : goal.returns
unfolding six_text
returns c =
    let t = c.args.d.tens in
    let neither : ltb t 396 || ltb 405 t ≡ false = rw (le-ltb t 396 c.if-tens.false, le-ltb 405 t c.if-tens-2.false) in
    c.with_plain.ensures ∙ ap (with_text _) (left _ neither refl)
