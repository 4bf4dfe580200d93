use Rattle.std.proofs.Common.{ap, ◌∙◌}
use Rattle.line.specs.Text.{with_text}
use Rattle.line.proofs.Lines.{decimal_digits}
use Rattle.line.proofs.with_decimal.Goals as goal

pub returns : goal.returns
returns c =
    let d = c.decimal-k.ensures in
    c.with_text.ensures ∙ ap (with_text c.args.l) (d.digits ∙ decimal_digits c.decimal-k.result c.args.n c.ranges.n.fits d.len)
