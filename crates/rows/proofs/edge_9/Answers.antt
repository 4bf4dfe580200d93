use Rattle.numbers.proofs.Finite.{finite_test}
use Rattle.rows.proofs.edge_9.Goals as goal

pub returns : goal.returns
returns c = rw (c.ask.ensures, finite_test c.args.e.weight c.is_finite.ensures.value)
