use Rattle.std.proofs.Common.{arith}
use Rattle.numbers.proofs.Laying.{laid_none, laid_more, laid_with}
use Rattle.slices.proofs.clear.Goals as goal

pub loop-x-init : goal.loop-x-init
loop-x-init g c = laid_none g.T.Zero.zero _ _ _

pub loop-x-preserved : goal.loop-x-preserved
loop-x-preserved g c = laid_more g.T.Zero.zero _ c.loop-x.invariant (omega arith) (omega arith) c.zero.ensures

pub returns : goal.returns
returns g c = laid_with g.T.Zero.zero c.loop-x.invariant (omega arith)
