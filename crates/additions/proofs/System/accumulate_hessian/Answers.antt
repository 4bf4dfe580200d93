use mathlib.Core.Path.{◌∙◌}
use Rattle.additions.proofs.Ends.{answered}
use native.Mathlib.Omega.{arith}
use Rattle.numbers.specs.Walks.{each}
use Rattle.numbers.proofs.Walking.{each_more, each_all, each_early}
use Rattle.numbers.proofs.Question.{handed_on}
use Rattle.additions.specs.Additions.{block_added}
use borrow.Author.Rules.{rules}
use Rattle.additions.proofs.System.accumulate_hessian.Goals as goal

pub loop-r-init : goal.loop-r-init
unfolding each
loop-r-init c = search rules

pub returns-in_err-accumulate_row-clause-value : goal.returns-in_err-accumulate_row-clause-value
unfolding block_added
returns-in_err-accumulate_row-clause-value c =
    rw (handed_on _ c.from_residual.ensures.1)
    (each_early _ _ _ _ c.loop-r.invariant.1
    (rw (c.loop-r.invariant.0.1, c.loop-r.invariant.0.2) at (answered c.accumulate_row.ensures.value c.in_err-accumulate_row.was))
    c.loop-r-test.true)

pub loop-r-preserved : goal.loop-r-preserved
loop-r-preserved c =
    let q = c.loop-r.invariant.0 in
    let k = c.accumulate_row.ensures.same in (
      (k.0 ∙ q.0, k.1 ∙ q.1, k.2 ∙ q.2),
      each_more _ _ _ c.loop-r.invariant.1
          (rw (q.1, q.2) at (answered c.accumulate_row.ensures.value c.in_ok-accumulate_row.was)),
    )

pub returns-clause-value : goal.returns-clause-value
unfolding block_added
returns-clause-value c = each_all _ _ _ _ c.loop-r.invariant.1 (omega arith)
