use Prim.Native.Nat.{◌*◌}
use native.Mathlib.Nat.{add-zero}
use Rattle.graph.specs.Lent.{edge_from}
use Rattle.jacobians.proofs.stowed_at.Goals as goal

pub returns : goal.returns
unfolding edge_from
returns c = rw (add-zero (c.args.e * 8))
