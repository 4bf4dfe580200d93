use Rattle.std.proofs.Common.{◌≡◌, ◌∙◌, refl, ap, arith, length, get_or}
use lib.Ieee.{nan, binary64}
use Rattle.numbers.specs.Notation.{◌⊗◌}
use Rattle.numbers.specs.Walks.{sum_of}
use Rattle.numbers.proofs.Walking.{sum_more}
use Rattle.roots.specs.Roots.{root64}
use Rattle.trials.specs.Trials.{norm_of}
use Rattle.trials.proofs.l2_norm.Goals as goal

pub loop-x-init : goal.loop-x-init
unfolding sum_of
loop-x-init c = refl

pub loop-x-preserved : goal.loop-x-preserved
loop-x-preserved c = rw c.from-wide.ensures (sum_more binary64 _ _ _ c.loop-x.invariant)

pub returns : goal.returns
unfolding norm_of
returns c =
    let v = c.args.v.now in
    let e : c.loop-x.x-index ≡ length v = omega arith in
    c.sqrt64.ensures ∙ ap root64 (c.loop-x.invariant ∙ ap (sum_of binary64 (λ k. get_or v k nan ⊗ get_or v k nan)) e)
