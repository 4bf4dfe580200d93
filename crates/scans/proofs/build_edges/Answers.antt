use Prim.Native.Nat.{ℕ}
use native.Mathlib.Nat.{min-le_right}
use native.Mathlib.Omega.{arith}
use mathlib.Core.Path.{◌≡◌, refl, ap, ◌∙◌}
use lib.ListN.{replicate}
use Rattle.scans.specs.Scans.{edge_numbers, scan_edge}
use Rattle.scans.proofs.Fits.{zero32}
use Rattle.scans.proofs.Strings.{filled_none, filled_more, filled_end}
use Rattle.scans.proofs.build_edges.Goals as goal

pub loop-k-init : goal.loop-k-init
loop-k-init c = filled_none _ 8 (ap (replicate 8200) zero32)

pub loop-k-preserved : goal.loop-k-preserved
loop-k-preserved c =
    let a = c.args in
    let m = min-le_right a.n 1025 in
    filled_more _ 8 (λ _. refl) c.loop-k.k c.loop-k.invariant (omega arith)
    (ap edge_numbers (c.scan_edge.ensures
    ∙ ap (λ (n : ℕ). scan_edge n a.poses.now a.loop_poses.now a.weight c.loop-k.k) c.saturating_sub-chain.ensures))
    c.put_edge.ensures c.put_edge.auto.edges

pub returns : goal.returns
returns c =
    let e : c.loop-k.k ≡ c.min-k-end.result = omega arith in
    filled_end _ 8 c.loop-k.invariant (e ∙ c.min-k-end.ensures)
