use mathlib.Core.Path.{◌∙◌}
use Rattle.additions.proofs.Ends.{answered}
use native.Mathlib.Omega.{arith}
use Rattle.numbers.specs.Walks.{each}
use Rattle.numbers.proofs.Walking.{each_more, each_all, each_early}
use Rattle.numbers.proofs.Question.{handed_on}
use Rattle.additions.specs.Additions.{row_added}
use borrow.Author.Rules.{rules}
use Rattle.additions.proofs.System.accumulate_row.Goals as goal

pub loop-c-init : goal.loop-c-init
unfolding each
loop-c-init c = search rules

pub returns-in_err-add_entry-clause-value : goal.returns-in_err-add_entry-clause-value
unfolding row_added
returns-in_err-add_entry-clause-value c =
    rw (handed_on _ c.from_residual.ensures.1)
    (each_early _ _ _ _ c.loop-c.invariant.1
    (rw (c.loop-c.invariant.0.1, c.loop-c.invariant.0.2) at (answered c.add_entry.ensures.value c.in_err-add_entry.was))
    c.loop-c-test.true)

pub loop-c-preserved : goal.loop-c-preserved
loop-c-preserved c =
    let q = c.loop-c.invariant.0 in
    let k = c.add_entry.ensures.same in (
      (k.0 ∙ q.0, k.1 ∙ q.1, k.2 ∙ q.2),
      each_more _ _ _ c.loop-c.invariant.1
          (rw (q.1, q.2) at (answered c.add_entry.ensures.value c.in_ok-add_entry.was)),
    )

pub returns-clause-value : goal.returns-clause-value
unfolding row_added
returns-clause-value c = each_all _ _ _ _ c.loop-c.invariant.1 (omega arith)
