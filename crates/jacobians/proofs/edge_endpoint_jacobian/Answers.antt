use mathlib.Core.Path.{sym, ◌∙◌}
use lib.Ieee.{of_bits}
use Rattle.numbers.specs.Notation.{ratio}
use Rattle.graph.specs.Lent.{dof_of}
use Rattle.jacobians.proofs.Going.{cells_there, first_lost, first_had}
use Rattle.jacobians.proofs.edge_endpoint_jacobian.Goals as goal

pub returns-in-Err : goal.returns-in-Err
unfolding ratio of_bits
returns-in-Err c =
    let a = c.args in
    first_lost a.known.now a.x (dof_of a.m) a.l a.end c.first_probe.ensures c.in-Err.is

pub columns-requires : goal.columns-requires
columns-requires c =
    let a = c.args in
    let there = cells_there a.known.now a.x (sym c.first_probe.ensures ∙ c.in-Ok.is) in
    (there.1, there.0)

pub returns : goal.returns
returns c =
    let a = c.args in
    first_had a.known.now a.x (dof_of a.m) a.l a.end c.first_probe.ensures c.in-Ok.is
    c.widened-first.ensures c.hinge_of-shift.ensures c.columns.ensures
