use mathlib.Core.Path.{◌≡◌}
use Rattle.numbers.specs.Walks.{strung}
use Rattle.job_records.specs.Bytes.{pasted}
use Rattle.job.specs.Format.{edge_record}
use Rattle.job.proofs.put_edges.Given as goal

abbrev pub invariant-loop-i : goal.invariant-loop-i
invariant-loop-i l = l.out ≡ pasted l.at (strung (edge_record l.ends l.edges) l.i) l.initial.out
