-- `job::put_all` meets its contract: the first i numbers stand in the output. Assumes nothing.
use Rattle.std.proofs.Common.{◌≡◌, get_or}
use Rattle.numbers.specs.Walks.{strung}
use Rattle.job_records.specs.Bytes.{bytes_of, pasted}
use Rattle.job.proofs.put_all.Given as goal

abbrev pub invariant-loop-i : goal.invariant-loop-i
invariant-loop-i g l =
    let w = g.T.Word in
    l.out ≡ pasted l.at (strung (λ i. bytes_of w.BYTES (w.number (get_or l.ns i (w.of 0)))) l.i) l.initial.out
