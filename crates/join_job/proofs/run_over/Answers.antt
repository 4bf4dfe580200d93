use mathlib.Core.Path.{ap}
use lib.ListN.{replicate}
use Rattle.sparse_pgo.specs.Optimize.{After}
use Rattle.join_job.proofs.Patterns.{over_is, zero32, zero64}
use Rattle.join_job.proofs.run_over.Goals as goal

pub returns : goal.returns
returns c =
    let e =
    over_is c.args.j.settings _ _ _ _ _ _ _ _ _ c.settings_of.ensures (ap (replicate 148608) zero32) (ap (replicate 6144) zero64) c.optimize.ensures in
    record { value = ap (λ (y : After). y.answer) e; out_value = ap (λ (y : After). y.out) e }
