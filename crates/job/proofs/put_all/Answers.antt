use mathlib.Core.Path.{sym, ◌∙◌}
use lib.ListN.{length, get_or}
use Rattle.numbers.specs.Walks.{strung}
use Rattle.job_records.specs.Bytes.{bytes_of}
use Rattle.job_records.proofs.Words.{length_bytes}
use Rattle.job.proofs.Pasting.{pasted_none}
use Rattle.job.proofs.Writing.{turn_fits, part_put}
use Rattle.std.proofs.lemmas.List.{get_or_default}
use Rattle.job.proofs.put_all.Goals as goal

pub loop-i-init : goal.loop-i-init
unfolding strung
loop-i-init g c = sym (pasted_none _ _)

pub loop-i-preserved : goal.loop-i-preserved
loop-i-preserved g c =
    let w = g.T.Word in
    let ns = c.args.ns.now in
    let f = turn_fits w.BYTES c.loop-i.i (length ns) c.args.at (length c.args.out.now) c.loop-i-test.true c.requires in
    let x = c.index-ns-i.is ∙ get_or_default ns c.loop-i.i _ (w.of 0) c.loop-i-test.true in
    rw (c.put.ensures, c.BYTES.ensures, x)
    (part_put (λ k. bytes_of w.BYTES (w.number (get_or ns k (w.of 0)))) w.BYTES c.loop-i.i c.args.at c.loop-i.out c.args.out.now
    (λ k. length_bytes w.BYTES _) f.1 c.loop-i.invariant)
