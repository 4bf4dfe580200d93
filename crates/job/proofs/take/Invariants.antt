-- `job::take` meets its contract: the first i numbers are there. Assumes nothing.
use Rattle.std.proofs.Common.{◌≡◌, ℕ, ◌+◌, ◌*◌, ◌<◌, get_or}
use Rattle.job_records.specs.Bytes.{value_at}
use Rattle.job.proofs.take.Given as goal

abbrev pub invariant-loop-i : goal.invariant-loop-i
invariant-loop-i g l =
    let w = g.T.Word in
    (k : ℕ) → k < l.i → get_or l.to k (w.of 0) ≡ w.of (value_at w.BYTES l.s (l.at + w.BYTES * k))
