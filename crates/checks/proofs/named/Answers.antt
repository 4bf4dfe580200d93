use Prim.Native.Nat.{ℕ, ◌/◌}
use native.Mathlib.Omega.{arith}
use mathlib.Core.Path.{◌≡◌, ap, ◌∙◌}
use mathlib.Core.Bool.{false}
use lib.ListN.{length}
use Rattle.numbers.specs.Walks.{table}
use Rattle.numbers.proofs.Tables.{replicate_table}
use Rattle.checks.proofs.Marks.{named_by, named_none, named_more}
use Rattle.checks.proofs.named.Goals as goal

pub loop-k-init : goal.loop-k-init
loop-k-init c = replicate_table 256 false ∙ named_none c.args.ends.now 256

pub loop-k-preserved : goal.loop-k-preserved
loop-k-preserved c =
    c.mark-in-loop-k.ensures
    ∙ (rw (c.ends_at-a.ensures.1, c.mark.ensures, c.ends_at-a.ensures.0) (named_more c.args.ends.now c.loop-k.k 256 _ c.loop-k.invariant))

pub returns : goal.returns
returns c =
    let a = c.args in
    let e : c.loop-k.k ≡ length a.ends.now / 2 = omega arith in
    c.loop-k.invariant ∙ ap (λ (m : ℕ). table (named_by a.ends.now m) 256) e
