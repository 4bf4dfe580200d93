use mathlib.Core.Path.{◌≡◌, ◌∙◌, ap, refl}
use mathlib.Core.List.{List}
use native.Mathlib.Omega.{arith}
use lib.Ieee.{Float, nan, binary64}
use lib.ListN.{get_or}
use Rattle.numbers.specs.Notation.{◌⊗◌}
use Rattle.numbers.specs.Walks.{sum_of}
use Rattle.numbers.proofs.Walking.{sum_more}
use Rattle.printable.specs.Measures.{squares_of}
use Rattle.printable.proofs.residual_squared.Goals as goal

pub loop-x-init : goal.loop-x-init
unfolding sum_of
loop-x-init c = refl

pub loop-x-preserved : goal.loop-x-preserved
loop-x-preserved c = rw c.from-v.ensures (sum_more binary64 _ _ _ c.loop-x.invariant)

pub returns : goal.returns
unfolding squares_of
returns c =
    let six = c.six_of-six.result in
    let e : c.loop-x.x-index ≡ 6 = omega arith in
    c.loop-x.invariant ∙ ap (sum_of binary64 (λ k. get_or six k nan ⊗ get_or six k nan)) e
    ∙ ap (λ (six : List Float). sum_of binary64 (λ k. get_or six k nan ⊗ get_or six k nan) 6) c.six_of-six.ensures
