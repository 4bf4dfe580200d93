-- How the measures grow by one edge or one pose, and what they are of an edge that has a residual and of one that has none. Assumes nothing.
use mathlib.Core.Path.{◌≡◌, refl}
use Prim.Native.Nat.{ℕ, ◌+◌}
use native.Mathlib.Numerals.{add-one}
use lib.Ieee.{Float, lt, of_bits, binary64}
use Rattle.numbers.specs.Notation.{ratio, if_then}
use Rattle.rotations.specs.Formats.{Vec3}
use Rattle.rotations.specs.declared.Pose.{Pose}
use Rattle.graph.specs.Graph.{Graph}
use Rattle.graph.specs.declared.Edge.{Edge}
use Rattle.printable.specs.Measures.{edge_residual, with_squares, squares_up_to, gravity_cosine, smallest_cosine}

-- ---- the cost

module _ {P : Type 0} (g : Graph P Edge) (pose : ℕ → Pose) where
  pub squares_none : of_bits binary64 0 ≡ squares_up_to g pose 0
  unfolding squares_up_to ratio of_bits
  squares_none = refl

  pub squares_more : (k : ℕ) {s : Float} → s ≡ squares_up_to g pose k → with_squares (edge_residual g pose k) s ≡ squares_up_to g pose (k + 1)
  unfolding squares_up_to
  squares_more k e = rw (add-one, e)

-- ---- gravity

module _ (g : Vec3) (before after : ℕ → Pose) where
  pub cosine_none : of_bits binary64 0x3ff0_0000_0000_0000 ≡ smallest_cosine g 0 before after
  unfolding smallest_cosine ratio of_bits
  cosine_none = refl

  pub cosine_more : (x : ℕ) {s : Float} → s ≡ smallest_cosine g x before after
      → if_then (lt (gravity_cosine g (before x) (after x)) s) (gravity_cosine g (before x) (after x)) s ≡ smallest_cosine g (x + 1) before after
  unfolding smallest_cosine
  cosine_more x e = rw (add-one, e)
