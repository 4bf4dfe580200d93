use native.Mathlib.Omega.{arith}
use lib.Ieee.{of_bits}
use Rattle.numbers.specs.Notation.{ratio}
use Rattle.numbers.proofs.Walking.{each_none}
use Rattle.costs.specs.Costs.{cost_ends, cost_of}
use Rattle.costs.proofs.Costing.{cost_more, cost_stop, cost_end}
use Rattle.costs.proofs.cost_over.Goals as goal

pub loop-k-init : goal.loop-k-init
unfolding ratio of_bits
loop-k-init c = each_none _ _

pub active_edge_cost-requires : goal.active_edge_cost-requires
active_edge_cost-requires c = (c.loop-k-test.true, c.requires)

pub returns-in-Err : goal.returns-in-Err
unfolding cost_of cost_ends
returns-in-Err c =
    cost_stop _ _ _ c.loop-k.invariant _ c.active_edge_cost.ensures
    c.in-Err.is c.loop-k-test.true

pub loop-k-preserved : goal.loop-k-preserved
loop-k-preserved c = cost_more _ _ _ c.loop-k.invariant c.active_edge_cost.ensures c.in-Ok.is

pub returns : goal.returns
unfolding cost_of cost_ends
returns c = cost_end _ _ _ _ c.loop-k.invariant (omega arith)
