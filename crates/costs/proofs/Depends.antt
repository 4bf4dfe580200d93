-- What the cost depends on: of an edge whether it is active, and where it is, the poses of its ends and what it measured.
-- Not on numbers of edges or poses. Assumes nothing.
use mathlib.Core.Path.{◌≡◌, refl, ap, ◌∙◌}
use mathlib.Core.Bool.{Bool, true, false}
use Prim.Native.Nat.{ℕ, ◌<◌}
use lib.Ieee.{Float}
use Rattle.numbers.specs.Notation.{num}
use Rattle.numbers.specs.Walks.{each, only}
use Rattle.numbers.proofs.Walking.{each_ext}
use Rattle.rotations.specs.declared.Pose.{Pose}
use Rattle.graph.specs.Graph.{Links, is_active}
use Rattle.graph.specs.declared.Edge.{Edge}
use Rattle.costs.specs.Costs.{price_at, cost_from, cost_ends, cost_of}

-- edge k, walked once with the poses p and once with the poses q
pub record Same (l m : Links Edge) (p q : ℕ → Pose) (k : ℕ) : Type 0 where
  pub slot_a : l.slot (l.a k) ≡ m.slot (m.a k)
  pub slot_b : l.slot (l.b k) ≡ m.slot (m.b k)
  pub pose_a : is_active l k ≡ true → p (l.a k) ≡ q (m.a k)
  pub pose_b : is_active l k ≡ true → p (l.b k) ≡ q (m.b k)
  pub measured : is_active l k ≡ true → l.measured k ≡ m.measured k

module _ (l m : Links Edge) (p q : ℕ → Pose) where
  same_step : (k : ℕ) → Same l m p q k → (c : Float) → only (is_active l k) (price_at l p k) c ≡ only (is_active m k) (price_at m q k) c
  unfolding price_at
  same_step k s c = rw (← s.slot_a, ← s.slot_b) (go (is_active l k) refl)
    where
      go : (b : Bool) → is_active l k ≡ b → only b (price_at l p k) c ≡ only b (price_at m q k) c
      go true h = rw (s.pose_a h, s.pose_b h, s.measured h)
      go false h = refl

  pub cost_ends_same : l.edges ≡ m.edges → ((k : ℕ) → k < l.edges → Same l m p q k) → cost_ends l p ≡ cost_ends m q
  unfolding cost_ends
  cost_ends_same e h =
      each_ext _ _ l.edges (num 0) (λ k i c. same_step k (h k i) c)
      ∙ ap (λ n. each (λ k. only (is_active m k) (price_at m q k)) n (num 0)) e

  pub cost_same : l.edges ≡ m.edges → ((k : ℕ) → k < l.edges → Same l m p q k) → cost_of l p ≡ cost_of m q
  unfolding cost_of
  cost_same e h = ap cost_from (cost_ends_same e h)
