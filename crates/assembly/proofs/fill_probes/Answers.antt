use Rattle.assembly.proofs.Knowing.{probed_none, probed_more, probed_all}
use native.Mathlib.Omega.{arith}
use mathlib.Core.Path.{◌∙◌}
use Rattle.assembly.proofs.fill_probes.Goals as goal

pub loop-c-init : goal.loop-c-init
loop-c-init c = (omega arith, probed_none _ _ _)

pub fill_axis-requires : goal.fill_axis-requires
fill_axis-requires c =
    let b = c.requires.1 in
    let t = c.loop-c-test.true in
    (c.requires.0, omega arith, c.loop-c.invariant.1.len ∙ c.requires.2)

pub loop-c-preserved : goal.loop-c-preserved
loop-c-preserved c =
    let b = c.requires.1 in
    let t = c.loop-c-test.true in
    (omega arith, probed_more _ _ _ c.loop-c.invariant.1 c.fill_axis.ensures (omega arith))

pub shape_of-known : goal.shape_of-known
shape_of-known c = c.loop-c.invariant.1.len

pub returns : goal.returns
returns c = probed_all _ _ (omega arith) c.loop-c.invariant.1
