-- What the search of row 26 ensures, for its own contracts: poses get one label if edges join them. `loose_island` of proofs/Loose ties it to the row's test.
-- Definitions only.
use Rattle.std.specs.Prelude.{ℕ, ◌/◌, ◌<◌, ◌≡◌, ◌⊎◌, Bool, true, not, List, [], ◌∷◌, eqb, length, get_or, Float}
use Rattle.numbers.specs.Notation.{if_then}
use Rattle.numbers.specs.Refusals.{Fault, fault}
use Rattle.graph.specs.declared.Edge.{Edge}
use Rattle.graph.specs.Graph.{Graph}
use Rattle.graph.specs.Lent.{none}
use Rattle.checks.specs.Input.{lent_graph}
use Rattle.checks.specs.Islands.{weighs}

-- the label of pose x; past the end it is none, which is the largest
abbrev pub label_of : List ℕ → ℕ → ℕ
label_of l x = get_or l x none

-- a label other than none at the end: the pose is on an island
abbrev pub label_faults : List ℕ → List Fault
label_faults l = fault 26 (λ x. not (eqb (label_of l x) none)) ∷ []

abbrev pub renamed : ℕ → ℕ → ℕ → ℕ
renamed old new l = if_then (eqb l old) new l

-- new labels put a and b under one, and with them what had their labels; nothing else
pub record MergesTwo (a b : ℕ) (old new : ℕ → ℕ) : Type 0 where
  pub same : (x y : ℕ) → old x ≡ old y → new x ≡ new y
  pub ends : new a ≡ new b
  pub apart : (x y : ℕ) → new x ≡ new y → (old x ≡ old y) ⊎ ((old x ≡ old a) × (old y ≡ old b)) ⊎ ((old x ≡ old b) × (old y ≡ old a))

-- new labels put the ends of each edge of non-zero weight below n under one, and no more than they must: a test with one value at those ends, and wherever
-- old labels are one, has one value wherever new labels are
pub record Merges {P : Type 0} (g : Graph P Edge) (n : ℕ) (old new : ℕ → ℕ) : Type 0 where
  pub same : (x y : ℕ) → old x ≡ old y → new x ≡ new y
  pub ends : (k : ℕ) → k < n → weighs g k ≡ true → new (g.a k) ≡ new (g.b k)
  pub least : (t : ℕ → Bool) → ((k : ℕ) → k < n → weighs g k ≡ true → t (g.a k) ≡ t (g.b k)) → ((x y : ℕ) → old x ≡ old y → t x ≡ t y)
      → (x y : ℕ) → new x ≡ new y → t x ≡ t y

-- the same of all edges that are lent
abbrev pub Labelled : List ℕ → List Float → List ℕ → List ℕ → Type 0
Labelled ends edges old new = Merges (lent_graph [] ends edges []) (length ends / 2) (label_of old) (label_of new)
