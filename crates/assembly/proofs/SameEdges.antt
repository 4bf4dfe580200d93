-- What an assembly depends on: of each edge what it measured, the poses of its ends and their slots, and nothing else. Assumes nothing.
use Rattle.std.specs.Prelude.{Option, is_some}
use mathlib.Core.Path.{◌≡◌, ap, ◌∙◌}
use mathlib.Core.Bool.{◌||◌}
use mathlib.Core.List.{List}
use Prim.Native.Nat.{ℕ, ◌<◌}
use lib.Ieee.{Float}
use Rattle.numbers.specs.Walks.{each, only}
use Rattle.numbers.proofs.Walking.{each_ext}
use Rattle.rotations.specs.declared.Pose.{Pose}
use Rattle.graph.specs.Graph.{Links}
use Rattle.graph.specs.declared.Edge.{Edge}
use Rattle.graph.specs.declared.Manifold.{Manifold}
use Rattle.additions.specs.Additions.{lower_triangle}
use Rattle.assembly.specs.Assembly.{edge_of, add_at, edge_step, cleared, assembled_ends, assembled_of}

-- the same edges between the same poses; pose numbers may differ
pub record Same (l l' : Links Edge) (pose pose' : ℕ → Pose) : Type 0 where
  pub as_many : l.edges ≡ l'.edges
  pub same_measured : (k : ℕ) → k < l.edges → l.measured k ≡ l'.measured k
  pub pose_a : (k : ℕ) → k < l.edges → pose (l.a k) ≡ pose' (l'.a k)
  pub pose_b : (k : ℕ) → k < l.edges → pose (l.b k) ≡ pose' (l'.b k)
  pub slot_a : (k : ℕ) → k < l.edges → l.slot (l.a k) ≡ l'.slot (l'.a k)
  pub slot_b : (k : ℕ) → k < l.edges → l.slot (l.b k) ≡ l'.slot (l'.b k)

same_step : (m : Manifold) (n : ℕ) {a a' b b' : Pose} {e e' : Edge} {s s' t t' : Option ℕ} (w : List Float) → a ≡ a' → b ≡ b' → e ≡ e' → s ≡ s' → t ≡ t'
    → only (is_some s || is_some t) (edge_of lower_triangle m n a b e s t) w ≡ only (is_some s' || is_some t') (edge_of lower_triangle m n a' b' e' s' t') w
same_step m n w p q r u v = rw (p, q, r, u, v)

module _ (m : Manifold) (n : ℕ) (l l' : Links Edge) (pose pose' : ℕ → Pose) (s : Same l l' pose pose') (w : List Float) where
  pub same_ends : assembled_ends m n l pose w ≡ assembled_ends m n l' pose' w
  unfolding assembled_ends add_at
  same_ends =
      each_ext _ _ l.edges (cleared n w)
      (λ k b y. same_step m n y (s.pose_a k b) (s.pose_b k b) (s.same_measured k b) (s.slot_a k b) (s.slot_b k b))
      ∙ ap (λ c. each (edge_step lower_triangle m n l' pose') c (cleared n w)) s.as_many

  pub same_assembly : assembled_of m n l pose w ≡ assembled_of m n l' pose' w
  unfolding assembled_of
  same_assembly = rw same_ends
