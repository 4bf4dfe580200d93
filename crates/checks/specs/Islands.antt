-- Row 26 (document 02, Wish 6), a loose island: a path goes by edges of non-zero weight, either way; a free pose with no path to a fixed one is loose.
-- `is_loose` decides it; that it means the paths is `loose_means` of proofs/Islands. Definitions only.
use Rattle.std.specs.Prelude.{ℕ, zero, suc, ◌<◌, ◌≡◌, Bool, true, not, ◌&&◌, ◌||◌, eqb}
use Rattle.std.specs.Float.Ieee.{eq}
use Rattle.numbers.specs.Notation.{num}
use Rattle.numbers.specs.Walks.{some}
use Rattle.graph.specs.declared.Edge.{Edge}
use Rattle.graph.specs.Graph.{Graph, is_free}

-- edge k has a weight that is not zero; −0 is zero too
unfoldable pub weighs : {P : Type 0} → Graph P Edge → ℕ → Bool
weighs g k = not (eq (g.measured k).weight (num 0))

-- a path from x to y: here; or an edge of non-zero weight that starts or ends at x, and a path from its other end
pub data Path {P : Type 0} (g : Graph P Edge) : ℕ → ℕ → Type 0 where
  here : {x : ℕ} → Path g x x
  along : {y : ℕ} (k : ℕ) → k < g.edges → weighs g k ≡ true → Path g (g.b k) y → Path g (g.a k) y
  against : {y : ℕ} (k : ℕ) → k < g.edges → weighs g k ≡ true → Path g (g.a k) y → Path g (g.b k) y

-- a path from x to a fixed pose
pub record Reaches {P : Type 0} (g : Graph P Edge) (x : ℕ) : Type 0 where
  pub pose : ℕ
  pub below : pose < g.poses
  pub fixed : g.fixed pose ≡ true
  pub path : Path g x pose

-- a free pose with no path to a fixed one
pub record Loose {P : Type 0} (g : Graph P Edge) (x : ℕ) : Type 0 where
  pub free : is_free g x ≡ true
  pub no_path : Reaches g x → ⊥

-- ---- the test

-- whether edges below k join x to y: without the last of them; or by way of it, along or against
unfoldable pub connected : {P : Type 0} → Graph P Edge → ℕ → ℕ → ℕ → Bool
connected g zero x y = eqb x y
connected g (suc k) x y =
    connected g k x y
    || weighs g k && (connected g k x (g.a k) && connected g k (g.b k) y || connected g k x (g.b k) && connected g k (g.a k) y)

-- whether all edges join x to some fixed pose
unfoldable pub reaches : {P : Type 0} → Graph P Edge → ℕ → Bool
reaches g x = some (λ y. g.fixed y && connected g g.edges x y) g.poses

unfoldable pub is_loose : {P : Type 0} → Graph P Edge → ℕ → Bool
is_loose g x = is_free g x && not (reaches g x)
