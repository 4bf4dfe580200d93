-- `printable::gravity_preserved` meets its contract: no cosine is below the least exactly if the smallest is not. Assumes nothing.
use mathlib.Core.Path.{sym}
use Prim.Native.Nat.{◌/◌}
use lib.ListN.{length}
use lib.Ieee.{of_bits}
use Rattle.numbers.specs.Notation.{ratio}
use Rattle.graph.specs.Lent.{pose_at}
use Rattle.printable.proofs.Judging.{kept_by_smallest}
use Rattle.printable.proofs.gravity_preserved.Goals as goal

pub returns : goal.returns
unfolding ratio of_bits
returns c =
    let a = c.args in
    rw c.min_gravity_cosine.ensures
    (sym (kept_by_smallest a.m (length a.before.now / 12) (pose_at a.before.now) (pose_at a.after.now)))
