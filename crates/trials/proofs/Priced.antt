-- A cost is what its walk over the edges ends in. Assumes nothing.
use Rattle.costs.specs.declared.BadEdge.{BadEdge}
use Rattle.std.specs.Prelude.{Err, Ok, Result}
use mathlib.Core.Path.{◌≡◌, refl, sym, ap, ap₂, ◌∙◌}
use Prim.Native.Nat.{ℕ}
use native.Mathlib.Omega.{arith}
use lib.Ieee.{Float}
use Rattle.numbers.specs.Walks.{Ended, done, stopped}
use Rattle.numbers.specs.declared.Failure.{Failure}
use Rattle.rotations.specs.declared.Pose.{Pose}
use Rattle.graph.specs.Graph.{Links}
use Rattle.graph.specs.declared.Edge.{Edge}
use Rattle.costs.specs.Costs.{cost_ends, cost_from, cost_of}

module _ (l : Links Edge) (pose : ℕ → Pose) (e : Result Float BadEdge) (h : e ≡ cost_of l pose) where
  pub cost_had : (c : Float) → e ≡ Ok c → cost_ends l pose ≡ done c
  unfolding cost_of
  cost_had c q = go (cost_ends l pose) (sym h ∙ q)
    where
      go : (e : Ended Float) → cost_from e ≡ Ok c → e ≡ done c
      go (done d) s = let t : d ≡ c = cc in ap done t
      go (stopped k why d) s = let z : ◌≡◌ {A = ℕ} 0 1 = cc in absurd (omega arith)

  -- where it stopped
  pub record Unpriced (k : ℕ) (why : Failure) : Type 0 where
    pub sum : Float
    pub ends : cost_ends l pose ≡ stopped k why sum

  pub cost_bad : (k : ℕ) (why : Failure) → e ≡ Err (record { edge = k; why = why }) → Unpriced k why
  unfolding cost_of
  cost_bad k why q = go (cost_ends l pose) refl (sym h ∙ q)
    where
      go : (e : Ended Float) → cost_ends l pose ≡ e → cost_from e ≡ Err (record { edge = k; why = why }) → Unpriced k why
      go (done d) t s = let z : ◌≡◌ {A = ℕ} 0 1 = cc in absurd (omega arith)
      go (stopped j y d) t s =
          let f : ◌≡◌ {A = BadEdge} (record { edge = j; why = y }) (record { edge = k; why = why }) = cc in
          record { sum = d; ends = t ∙ ap₂ (λ (i : ℕ) (w : Failure). stopped i w d) (ap (λ (b : BadEdge). b.edge) f) (ap (λ (b : BadEdge). b.why) f) }
