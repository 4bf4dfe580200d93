use mathlib.Core.Path.{◌≡◌, ap, ◌∙◌}
use native.Mathlib.Omega.{arith}
use lib.Ieee.{binary32}
use Rattle.numbers.specs.Notation.{◌⊠◌}
use Rattle.numbers.specs.Walks.{sum_of}
use Rattle.numbers.proofs.Walking.{sum_more}
use Rattle.additions.specs.Additions.{cell}
use borrow.Author.Rules.{rules}
use Rattle.additions.proofs.dot.Goals as goal

pub loop-k-init : goal.loop-k-init
unfolding sum_of
loop-k-init c = search rules

pub loop-k-preserved : goal.loop-k-preserved
loop-k-preserved c =
    let a = c.args in
    (omega arith, sum_more binary32 (λ q. cell a.a.now q a.i ⊠ cell a.b.now q a.j) c.loop-k.k _ c.loop-k.invariant.1)

pub returns : goal.returns
returns c =
    let a = c.args in
    let e : c.loop-k.k ≡ 6 = omega arith in
    c.loop-k.invariant.1 ∙ ap (sum_of binary32 (λ q. cell a.a.now q a.i ⊠ cell a.b.now q a.j)) e
