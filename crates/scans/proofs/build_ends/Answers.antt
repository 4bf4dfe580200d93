use native.Mathlib.Nat.{min-le_right}
use native.Mathlib.Omega.{arith}
use mathlib.Core.Path.{◌≡◌, refl, ◌∙◌}
use Rattle.scans.proofs.Nodes.{ends_wide}
use Rattle.scans.proofs.Strings.{filled_none, filled_pair, filled_end}
use Rattle.scans.proofs.build_ends.Goals as goal

pub loop-k-init : goal.loop-k-init
loop-k-init c = filled_none _ 2 refl

pub loop-k-preserved : goal.loop-k-preserved
loop-k-preserved c =
    let a = c.args in
    let m = min-le_right a.n 1025 in
    filled_pair c.loop-k.k (ends_wide a.ids.now a.loops.now) c.loop-k.invariant (omega arith) c.scan_ends-a.ensures

pub returns : goal.returns
returns c =
    let e : c.loop-k.k ≡ c.min-k-end.result = omega arith in
    filled_end _ 2 c.loop-k.invariant (e ∙ c.min-k-end.ensures)
