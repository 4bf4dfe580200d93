use Prim.Native.Nat.{◌*◌}
use native.Mathlib.Omega.{arith}
use mathlib.Core.Path.{sym}
use lib.ListN.{length}
use Rattle.numbers.specs.Walks.{strung}
use Rattle.job.proofs.Pasting.{pasted_none}
use Rattle.job.proofs.Values.{part_bytes}
use Rattle.job.proofs.Writing.{turn_fits, pose_put}
use Rattle.job.proofs.put_poses.Goals as goal

pub loop-i-init : goal.loop-i-init
unfolding strung
loop-i-init c = sym (pasted_none _ _)

pub loop-i-preserved : goal.loop-i-preserved
loop-i-preserved c =
    let a = c.args in
    let f = turn_fits 100 c.loop-i.i a.n a.at (length a.out.now) c.loop-i-test.true c.requires.0 in
    rw (c.put_all.ensures, part_bytes 8 (12 * c.loop-i.i) 12 a.poses.now (omega arith), c.put_header.ensures)
    (pose_put a.poses.now a.at c.loop-i.i c.loop-i.out a.out.now c.loop-i.auto.out f.1 c.loop-i.invariant)
