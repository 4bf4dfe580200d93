use mathlib.Core.List.{[]}
use Rattle.std.specs.Prelude.{Ok}
use mathlib.Core.Path.{◌≡◌}
use Rattle.numbers.specs.Refusals.{lowest}
use Rattle.checks.specs.Input.{lent_graph}
use Rattle.checks.specs.Table.{pose_faults}
use Rattle.checks.proofs.pose_rows.Given as goal

abbrev pub invariant-loop-x : goal.invariant-loop-x
invariant-loop-x l = lowest (pose_faults (lent_graph l.poses [] [] [])) l.x ≡ Ok tt
