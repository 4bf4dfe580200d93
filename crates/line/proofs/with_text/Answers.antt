use Rattle.std.proofs.Common.{arith}
use Rattle.line.proofs.Lines.{text_none, text_more}
use Rattle.line.proofs.with_text.Goals as goal

pub loop-b-init : goal.loop-b-init
loop-b-init c = text_none c.args.l

pub loop-b-preserved : goal.loop-b-preserved
loop-b-preserved c =
    let p = c.loop-b in
    rw c.with_byte.ensures (text_more c.args.l p.r c.args.text.now p.b-index (omega arith) p.invariant)
