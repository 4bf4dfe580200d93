use Rattle.std.proofs.Common.{arith}
use Rattle.std.proofs.lemmas.Grind.{common_steps}
use Rattle.rows.specs.Tests.{unfit}
use Rattle.rows.proofs.Quotients.{fours}
use Rattle.rows.proofs.row_2.Goals as goal

pub returns : goal.returns
unfolding unfit
returns c = grind (arith, common_steps, fours c.args.edges c.args.ends)
