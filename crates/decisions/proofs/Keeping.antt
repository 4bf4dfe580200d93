-- What every trial keeps, the run keeps: a property of what the numerics hold that no trial takes away is there at the run's end. Assumes nothing.
use Prim.Native.Nat.{ℕ, zero, suc}
use mathlib.Core.Bool.{Bool, true, false}
use lib.Dec.{ltb}
use lib.Ieee.{Float}
use Rattle.numbers.specs.Notation.{if_then}
use Rattle.decisions.specs.Run.{begun}
use Rattle.decisions.specs.Machine.{Numerics, moved_on, next_of, held_of, play, played, enough}
use Rattle.decisions.specs.declared.State.{State}
use Rattle.decisions.specs.declared.Next.{Next}
use Rattle.decisions.specs.declared.Next.TheVariants as next

module _ {X : Type 0} (P : X → Type 0) (m : Numerics X) (kept : (x : X) (damping : Float) → P x → P (m.moved x damping)) (limit : ℕ) (tolerance : Float) where
  chosen_keeps : (s t : State) (y x : X) → P y → P x → P (moved_on s t y x)
  unfolding moved_on if_then
  chosen_keeps s t y x f g = go (ltb s.accepted t.accepted)
    where
      go : (b : Bool) → P (if_then b y x)
      go true = f
      go false = g

  turn_keeps : (n : Next) (x : X) → P x → P (held_of m limit tolerance n x)
  unfolding held_of
  turn_keeps (next.On s) x h = chosen_keeps s _ (m.moved x s.damping) x (kept x s.damping h) h
  turn_keeps (next.Over s e) x h = h

  play_keeps : (turns : ℕ) (n : Next) (x : X) → P x → P (play m limit tolerance turns n x).held
  unfolding play
  play_keeps zero n x h = h
  play_keeps (suc turns) n x h = play_keeps turns (next_of m limit tolerance n x) (held_of m limit tolerance n x) (turn_keeps n x h)

  pub played_keeps : (cost damping : Float) (x : X) → P x → P (played m limit tolerance cost damping x).held
  played_keeps cost damping x h = play_keeps (enough limit) (next.On (begun cost damping)) x h
