use Rattle.std.proofs.Common.{◌∙◌, arith, length-set}
use Rattle.join_job.proofs.Patterns.{zipped_more}
use Rattle.join_job.proofs.convert.Goals as goal

pub loop-i-preserved : goal.loop-i-preserved
loop-i-preserved g c =
    let i = c.loop-i in (
      length-set i.to i.i c.made.result ∙ i.invariant.0,
      zipped_more (λ x y. goal.F-post g c.args.made x y) c.args.from.now i.to i.i c.index-from-i.result c.made.result (omega arith) (omega arith)
          c.index-from-i.is i.invariant.1 c.made.ensures,
    )
