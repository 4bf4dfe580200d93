use Rattle.numbers.proofs.Question.{handed_on}
use Rattle.costs.specs.Costs.{priced}
use Rattle.costs.proofs.accumulate_edge_squared_cost.Goals as goal

pub returns : goal.returns
unfolding priced
returns c = rw (c.in_ok-d.was, ← c.six_of.ensures) c.add_squares.ensures

pub returns-in_err-d : goal.returns-in_err-d
unfolding priced
returns-in_err-d c = rw c.in_err-d.was (handed_on _ c.from_residual.ensures.1)
