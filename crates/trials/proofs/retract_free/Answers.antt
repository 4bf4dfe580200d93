use Rattle.trials.proofs.Poses.{tried_none, tried_more, tried_all}
use Rattle.trials.proofs.retract_free.Goals as goal

pub loop-p-init : goal.loop-p-init
loop-p-init c = tried_none _ _ _ _

pub loop-p-preserved : goal.loop-p-preserved
loop-p-preserved c =
    tried_more _ _ _ _ c.loop-p.invariant c.loop-p-test.true c.moved_pose-moved.ensures c.numbers_of-ns.ensures c.copy_from_slice.ensures.after

pub returns : goal.returns
returns c = tried_all _ _ _ _ c.loop-p.invariant c.loop-p-test.false
