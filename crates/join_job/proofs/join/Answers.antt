use Rattle.join_job.proofs.Fitting.{joined_counts}
use Rattle.join_job.proofs.join.Goals as goal

pub returns : goal.returns
returns c = let e = c.join_within.ensures in record { out_value = e; prefix_len = joined_counts _ _ _ _ _ _ e }
