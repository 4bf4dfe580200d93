-- The run over numerics that compute its events: document 01, "The solve and the run". X is what they hold (the poses). Definitions only.
use Rattle.std.specs.Prelude.{ℕ, zero, suc, ◌+◌, ◌*◌, Bool, true, false, ltb, Float}
use Rattle.numbers.specs.Notation.{if_then}
use Rattle.decisions.specs.Run.{after_turn, begun}
use Rattle.decisions.specs.declared.State.{State}
use Rattle.decisions.specs.declared.Assembly.{Assembly}
use Rattle.decisions.specs.declared.Raw.{Raw}
use Rattle.decisions.specs.declared.Next.{Next}
use Rattle.decisions.specs.declared.Next.TheVariants as next

-- what an assembly comes to, what a solve at a damping comes to, and what the trial of that solve holds
pub record Numerics (X : Type 0) : Type 0 where
  pub assemble : X → Assembly
  pub attempt : X → Float → Raw
  pub moved : X → Float → X

pub record Play (X : Type 0) : Type 0 where
  pub next : Next
  pub held : X

abbrev pub state_of : Next → State
state_of (next.On s) = s
state_of (next.Over s e) = s

abbrev pub ended : Next → Bool
ended (next.On s) = false
ended (next.Over s e) = true

-- the trial's where one more was accepted
unfoldable pub moved_on : {X : Type 0} → State → State → X → X → X
moved_on s t y x = if_then (ltb s.accepted t.accepted) y x

-- one turn: what comes next, and what is held then
unfoldable pub next_of : {X : Type 0} → Numerics X → ℕ → Float → Next → X → Next
next_of m limit tolerance (next.On s) x = after_turn limit tolerance s (m.assemble x) (m.attempt x s.damping)
next_of m limit tolerance (next.Over s e) x = next.Over s e

unfoldable pub held_of : {X : Type 0} → Numerics X → ℕ → Float → Next → X → X
held_of m limit tolerance (next.On s) x =
    moved_on s (state_of (after_turn limit tolerance s (m.assemble x) (m.attempt x s.damping))) (m.moved x s.damping) x
held_of m limit tolerance (next.Over s e) x = x

-- k turns: what has ended stays
unfoldable pub play : {X : Type 0} → Numerics X → ℕ → Float → ℕ → Next → X → Play X
play m limit tolerance zero n x = record { next = n; held = x }
play m limit tolerance (suc k) n x = play m limit tolerance k (next_of m limit tolerance n x) (held_of m limit tolerance n x)

-- enough turns for every run
abbrev pub enough : ℕ → ℕ
enough limit = 2 * limit + 55

-- the whole run
abbrev pub played : {X : Type 0} → Numerics X → ℕ → Float → Float → Float → X → Play X
played m limit tolerance cost damping x = play m limit tolerance (enough limit) (next.On (begun cost damping)) x
