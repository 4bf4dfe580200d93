-- The graph that an input means: document 01, "Graph, residual, assembly". P is a pose, M what an edge measured. Definitions only.
use Rattle.std.specs.Prelude.{ℕ, Bool, not, ◌&&◌, ◌||◌, eqb, None, Option, Some, is_some}
use Rattle.numbers.specs.Notation.{if_then}
use Rattle.numbers.specs.Walks.{some, count}

-- poses and edges by number; `fixed`: the fixed list names the pose
pub record Graph (P M : Type 0) : Type 0 where
  pub poses : ℕ
  pub pose : ℕ → P
  pub edges : ℕ
  pub a : ℕ → ℕ
  pub b : ℕ → ℕ
  pub measured : ℕ → M
  pub fixed : ℕ → Bool

-- edge k names pose x
abbrev pub touches : {P M : Type 0} → Graph P M → ℕ → ℕ → Bool
touches g x k = eqb (g.a k) x || eqb (g.b k) x

-- a pose is free if some edge names it and it is not fixed
unfoldable pub is_free : {P M : Type 0} → Graph P M → ℕ → Bool
is_free g x = some (touches g x) g.edges && not (g.fixed x)

-- free poses get the blocks 0, 1, 2 in pose order
abbrev pub block_of : {P M : Type 0} → Graph P M → ℕ → ℕ
block_of g x = count (is_free g) x

abbrev pub free_count : {P M : Type 0} → Graph P M → ℕ
free_count g = count (is_free g) g.poses

-- where a pose's numbers stand in the system
unfoldable pub slot_at : {P M : Type 0} → Graph P M → ℕ → Option ℕ
slot_at g x = if_then (is_free g x) (Some (block_of g x)) None

-- ---- the edges as cost and assembly walk them. What edge k does depends on the slots of its ends, on their poses and on what it measured alone.
pub record Links (M : Type 0) : Type 0 where
  pub edges : ℕ
  pub a : ℕ → ℕ
  pub b : ℕ → ℕ
  pub measured : ℕ → M
  pub slot : ℕ → Option ℕ

unfoldable pub links_of : {P M : Type 0} → Graph P M → Links M
links_of g = record { edges = g.edges; a = g.a; b = g.b; measured = g.measured; slot = slot_at g }

-- an edge with a free end is active
abbrev pub is_active : {M : Type 0} → Links M → ℕ → Bool
is_active l k = is_some (l.slot (l.a k)) || is_some (l.slot (l.b k))
