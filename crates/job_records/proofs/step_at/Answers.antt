-- `job_records::step_at` calls `count` where there is room for one more of the kind: the counts fit as what there is room for does. Assumes nothing.
use Rattle.std.proofs.Common.{arith}
use Rattle.std.proofs.lemmas.Grind.{common_steps}
use Rattle.numbers.specs.Notation.{if_then}
use Rattle.job_records.specs.Records.{is_full}
use Rattle.job_records.proofs.step_at.Goals as goal

pub count-requires : goal.count-requires
unfolding is_full if_then
count-requires c = grind (arith, common_steps)
