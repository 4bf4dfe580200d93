use native.Mathlib.Omega.{arith}
use mathlib.Core.Path.{◌∙◌}
use Rattle.numbers.proofs.Question.{handed_on}
use Rattle.numbers.proofs.Walking.{each_none}
use Rattle.costs.proofs.Costing.{square_more, square_stop, square_end}
use Rattle.costs.proofs.add_squares.Goals as goal

pub loop-j-init : goal.loop-j-init
loop-j-init c = each_none _ _

pub returns-in_err-must_be_finite : goal.returns-in_err-must_be_finite
returns-in_err-must_be_finite c =
    handed_on _ c.from_residual.ensures.1
    ∙ square_stop _ _ _ c.loop-j.invariant c.must_be_finite.ensures c.in_err-must_be_finite.was c.loop-j-test.true

pub loop-j-preserved : goal.loop-j-preserved
loop-j-preserved c = square_more _ _ _ c.loop-j.invariant c.must_be_finite.ensures c.in_ok-must_be_finite.was

pub returns : goal.returns
returns c = square_end _ _ _ c.loop-j.invariant (omega arith)
