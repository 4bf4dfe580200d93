use Rattle.std.specs.Prelude.{Result}
use Rattle.numbers.specs.declared.Refusal.{Refusal}
use Prim.Native.Nat.{ℕ}
use native.Mathlib.Omega.{arith}
use mathlib.Core.Path.{ap, ◌∙◌}
use mathlib.Core.List.{List}
use Rattle.join_job.specs.Joining.{small_room}
use Rattle.join_job.specs.declared.Report.{Report}
use Rattle.join_job.proofs.Fitting.{joined_report}
use Rattle.join_job.proofs.join_small.Goals as goal

pub returns : goal.returns
returns c = ap (λ (x : Result Report Refusal × ℕ × List ℕ). x.0) c.join_within-j.ensures ∙ joined_report small_room _ _ (omega (arith, c.blank-out.ensures.len))
