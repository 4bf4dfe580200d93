use mathlib.Core.Path.{sym, ◌∙◌}
use native.Mathlib.Omega.{arith}
use Rattle.assembly.proofs.Knowing.{ready_first, ready_more, ready_all}
use Rattle.assembly.proofs.fill.Goals as goal

pub loop-x-init : goal.loop-x-init
loop-x-init c = (omega arith, ready_first _ _ _ _ c.requires c.fill_bases.ensures)

pub fill_pose-requires : goal.fill_pose-requires
fill_pose-requires c = (c.loop-x-test.true, c.probing_of-probing.ensures, c.loop-x.invariant.1.len, c.loop-x.invariant.1.bases)

pub loop-x-preserved : goal.loop-x-preserved
loop-x-preserved c = (
  omega arith,
  ready_more _ _ _ _ c.loop-x.invariant.1 _ c.slot-slot.ensures
      c.fill_pose.ensures,
)

pub shape_of-known : goal.shape_of-known
shape_of-known c = c.loop-x.invariant.1.len ∙ sym c.requires

pub returns : goal.returns
returns c = ready_all _ _ _ _ (omega arith) c.loop-x.invariant.1
