use Rattle.std.proofs.Common.{take, length-take-le, rules}
use Rattle.input.proofs.Reading.{reads_on}
use Rattle.input.proofs.read_input.Goals as goal

-- what was read before stays, and what was read now follows it
pub loop-n-preserved : goal.loop-n-preserved
loop-n-preserved g c =
    let n = c.loop-n.n in
    let buf = c.loop-n.buf in
    let before = c.loop-n.invariant in
    let now = c.in-Ok.ensures in
    (search rules, search rules, reads_on _ _ _ (take n buf) c.read.new.buf _ n c.in-Ok.more (length-take-le n buf before.0) now.bound.0 before.2 now.bytes.0)
