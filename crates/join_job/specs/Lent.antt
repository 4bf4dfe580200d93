-- What the lent numbers of a run hold, as patterns and as floats. Definitions only; for the functions behind `join`, and nothing else rests on it.
use Rattle.std.specs.Prelude.{ℕ, List, Float}
use Rattle.sparse_pgo.specs.Optimize.{After}
use Rattle.job.specs.Format.{Space, space}
use Rattle.join_job.specs.Joining.{ran_over}
use Rattle.join_job.specs.declared.Numbers.{Numbers}

abbrev pub space_in : Numbers ℕ ℕ → Space
space_in n = space n.poses.now n.ends.now n.edges.now n.fixed.now

abbrev pub run_in : Numbers Float Float → List Float → After
run_in n out = ran_over n.settings n.poses.now n.ends.now n.edges.now n.fixed.now out
