use mathlib.Core.Path.{◌≡◌}
use Rattle.numbers.specs.Walks.{strung}
use Rattle.job_records.specs.Bytes.{pasted}
use Rattle.job.specs.Format.{fixed_record}
use Rattle.job.proofs.put_fixed.Given as goal

abbrev pub invariant-loop-i : goal.invariant-loop-i
invariant-loop-i l = l.out ≡ pasted l.at (strung (fixed_record l.fixed) l.i) l.initial.out
