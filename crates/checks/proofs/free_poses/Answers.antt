use Prim.Native.Nat.{ℕ, ◌/◌}
use native.Mathlib.Omega.{arith}
use mathlib.Core.Path.{◌≡◌, ap, ◌∙◌}
use lib.ListN.{length}
use Rattle.numbers.specs.Walks.{table}
use Rattle.graph.specs.Graph.{is_free}
use Rattle.checks.proofs.Marks.{named_by, left_by, left_none, left_more}
use Rattle.checks.proofs.free_poses.Goals as goal

pub loop-x-init : goal.loop-x-init
loop-x-init c = c.named-marks.ensures ∙ left_none _ c.args.fixed.now 256

pub loop-x-preserved : goal.loop-x-preserved
loop-x-preserved c =
    let a = c.args in
    c.mark.ensures ∙ left_more (named_by a.ends.now (length a.ends.now / 2)) a.fixed.now c.loop-x.x-index 256 _ c.loop-x.invariant

pub returns : goal.returns
unfolding is_free
returns c =
    let a = c.args in
    let e : c.loop-x.x-index ≡ length a.fixed.now = omega arith in
    c.loop-x.invariant ∙ ap (λ (m : ℕ). table (left_by (named_by a.ends.now (length a.ends.now / 2)) a.fixed.now m) 256) e
