-- `printable::smallest_cosine` meets its contract: the loop takes the smaller, pose by pose. Assumes nothing.
use mathlib.Core.Path.{◌≡◌}
use Rattle.graph.specs.Lent.{pose_at}
use Rattle.printable.specs.Measures.{smallest_cosine}
use Rattle.printable.proofs.smallest_cosine.Given as goal

abbrev pub invariant-loop-x : goal.invariant-loop-x
invariant-loop-x l = l.least ≡ smallest_cosine l.g l.x (pose_at l.before) (pose_at l.after)
