use Rattle.std.proofs.Common.{arith}
use Rattle.std.proofs.lemmas.Grind.{common_steps}
use Rattle.rows.specs.Tests.{too_many}
use Rattle.rows.proofs.row_3.Goals as goal

pub returns : goal.returns
unfolding too_many
returns c = grind (arith, common_steps)
