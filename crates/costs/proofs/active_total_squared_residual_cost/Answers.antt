use lib.ListN.{length-replicate}
use lib.Ieee.{binary32, of_bits}
use Rattle.costs.proofs.Stowing.{filled_based}
use Rattle.costs.proofs.active_total_squared_residual_cost.Goals as goal

pub cost_over-requires : goal.cost_over-requires
cost_over-requires c = filled_based _ _ c.fill_bases.ensures c.known_poses.ensures (length-replicate 2048 (of_bits binary32 0))

pub returns : goal.returns
returns c = c.cost_over.ensures
