use mathlib.Core.Path.{sym}
use lib.ListN.{length}
use Rattle.numbers.specs.Walks.{strung}
use Rattle.job.proofs.Pasting.{pasted_none}
use Rattle.job.proofs.Values.{one_number}
use Rattle.job.proofs.Writing.{turn_fits, fixed_put}
use Rattle.job.proofs.put_fixed.Goals as goal

pub loop-i-init : goal.loop-i-init
unfolding strung
loop-i-init c = sym (pasted_none _ _)

pub loop-i-preserved : goal.loop-i-preserved
loop-i-preserved c =
    let a = c.args in
    let f = turn_fits 8 c.loop-i.i (length a.fixed.now) a.at (length a.out.now) c.loop-i-test.true c.requires in
    rw (c.put.ensures, one_number 4 c.loop-i.i a.fixed.now, c.put_header.ensures)
    (fixed_put a.fixed.now a.at c.loop-i.i c.loop-i.out a.out.now c.loop-i.auto.out f.1 c.loop-i.invariant)
