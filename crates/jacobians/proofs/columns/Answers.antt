use mathlib.Core.Path.{◌≡◌, refl}
use lib.Ieee.{of_bits}
use Rattle.jacobians.proofs.Going.{column_more, jacobian_stopped, jacobian_whole}
use native.Mathlib.Omega.{arith}
use Rattle.numbers.specs.Notation.{ratio}
use Rattle.numbers.specs.Walks.{each}
use Rattle.graph.proofs.Degrees.{dof_most}
use Rattle.graph.specs.Lent.{dof_of}
use Rattle.jacobians.proofs.columns.Goals as goal

pub loop-c-init : goal.loop-c-init
unfolding each ratio of_bits
loop-c-init c = refl

pub column-requires : goal.column-requires
column-requires c =
    let pre = c.requires in
    let d : c.dof-dof.result ≡ dof_of c.args.m = c.dof-dof.ensures in
    (pre.0, omega (arith, dof_most c.args.m), pre.1)

pub put_six-requires : goal.put_six-requires
put_six-requires c =
    let a = c.args in
    let d : c.dof-dof.result ≡ dof_of a.m = c.dof-dof.ensures in
    omega (arith, dof_most a.m)

pub returns-in-Err : goal.returns-in-Err
returns-in-Err c =
    jacobian_stopped _ _ _ _ _ c.loop-c.c c.dof-dof.ensures c.loop-c.invariant c.column.ensures c.in-Err.is c.loop-c-test.true

pub loop-c-preserved : goal.loop-c-preserved
loop-c-preserved c =
    column_more _ _ _ _ _ c.loop-c.c c.dof-dof.ensures c.loop-c.invariant
    c.column.ensures c.in-Ok.is c.put_six.ensures

pub returns : goal.returns
returns c = jacobian_whole _ _ _ _ _ c.loop-c.c c.dof-dof.ensures c.loop-c.invariant (omega arith)
