use Rattle.std.proofs.Common.{refl, add-one, arith}
use Rattle.line.specs.FloatText.{repeated}
use Rattle.line.proofs.raise_all.Goals as goal

pub loop-i-init : goal.loop-i-init
unfolding repeated
loop-i-init c = (refl, omega arith, omega arith)

pub loop-i-preserved : goal.loop-i-preserved
unfolding repeated
loop-i-preserved c = (rw (add-one, c.raise-t.ensures.0, c.loop-i.invariant.0) refl, omega arith, omega arith)
