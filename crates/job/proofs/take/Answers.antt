use native.Mathlib.Omega.{arith}
use lib.ListN.{length}
use Rattle.numbers.proofs.Tables.{is_table}
use Rattle.job.proofs.take.Goals as goal

pub returns : goal.returns
returns g c = is_table (g.T.Word.of 0) c.loop-i.to _ (length c.args.to.now) c.loop-i.auto.to (λ k q. c.loop-i.invariant k (omega arith))
