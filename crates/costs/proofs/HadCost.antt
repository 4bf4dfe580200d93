-- Where the cost can be had, every active edge has a residual. Assumes nothing.
use Prim.Native.Nat.{ℕ, ◌<◌}
use native.Mathlib.Omega.{arith}
use Rattle.numbers.specs.declared.Failure.{Failure}
use Rattle.exp_log.specs.Formats.{Twist}
use Rattle.std.specs.Prelude.{Err, Ok, Result}
use mathlib.Core.Path.{◌≡◌, refl}
use mathlib.Core.Bool.{Bool, true, false}
use lib.Ieee.{Float}
use Rattle.numbers.specs.Notation.{num}
use Rattle.numbers.specs.Walks.{done, only}
use Rattle.numbers.proofs.Walking.{each_went}
use Rattle.rotations.specs.declared.Pose.{Pose}
use Rattle.graph.specs.Graph.{Links, is_active}
use Rattle.graph.specs.declared.Edge.{Edge}
use Rattle.residual.specs.Residuals.{has_residual, residual_of}
use Rattle.costs.specs.Costs.{priced, price_at, cost_ends}

-- an edge that went well has one
priced_had : (r : Result Twist Failure) (c : Float) → (priced r c).0 ≡ Ok tt → has_residual r ≡ true
unfolding priced
priced_had (Ok d) c h = refl
priced_had (Err why) c h = let z : ◌≡◌ {A = ℕ} 0 1 = cc in absurd (omega arith)

only_had : (b : Bool) (r : Result Twist Failure) (c : Float) → b ≡ true → (only b (priced r) c).0 ≡ Ok tt → has_residual r ≡ true
only_had true r c e h = priced_had r c h
only_had false r c e h = let z : ◌≡◌ {A = ℕ} 0 1 = cc in absurd (omega arith)

pub cost_residuals : (l : Links Edge) (pose : ℕ → Pose) (c : Float) → cost_ends l pose ≡ done c → (k : ℕ) → k < l.edges → is_active l k ≡ true
    → has_residual (residual_of (pose (l.a k)) (pose (l.b k)) (l.measured k)) ≡ true
unfolding cost_ends price_at
cost_residuals l pose c e k h active =
    let (u, went) = each_went (λ k. only (is_active l k) (price_at l pose k)) l.edges (num 0) c e k h in
    only_had (is_active l k) _ u active went
