-- What the machine holds has the cost that its state says: where every trial with a cost has it, and what was given had the first. Assumes nothing.
use Prim.Native.Nat.{ℕ, zero, suc, ◌+◌, ◌≤◌, ◌<◌}
use native.Mathlib.Nat.{le_of_eq}
use native.Mathlib.Omega.{arith}
use Rattle.std.specs.Prelude.{None, Ok, Some}
use mathlib.Core.Path.{◌≡◌, refl, sym, subst}
use mathlib.Core.Bool.{Bool, true, false}
use lib.Dec.{T, leb}
use lib.Ieee.{Float, binary32, lt, le, fits}
use borrow.Author.Tests.{lt-ltb, le-ltb}
use Rattle.numbers.specs.Notation.{num, if_then}
use Rattle.numbers.proofs.Choices.{taken, left}
use Rattle.decisions.specs.Damping.{lambda_max}
use Rattle.decisions.specs.declared.State.{State}
use Rattle.decisions.specs.declared.Assembly.{Assembly}
use Rattle.decisions.specs.declared.Assembly.TheVariants as assembly
use Rattle.decisions.specs.declared.Raw.{Raw}
use Rattle.decisions.specs.declared.Raw.TheVariants as raw
use Rattle.decisions.specs.declared.Outcome.TheVariants as outcome
use Rattle.decisions.specs.declared.Trial.TheVariants as trial
use Rattle.decisions.specs.declared.Reason.TheVariants as reason
use Rattle.decisions.specs.declared.Why.TheVariants as why
use Rattle.decisions.specs.declared.Next.{Next}
use Rattle.decisions.specs.declared.Next.TheVariants as next
use Rattle.decisions.specs.Run.{begun, iterations, one_more, judged, heard, failing, accepting, rejecting, solved, assembled, passed, then_solve, after_turn}
use Rattle.decisions.specs.Machine.{Numerics, moved_on, next_of, held_of, play, played, enough, state_of}
use Rattle.decisions.proofs.Bounds.{Live, Kept, more_accepted, begun_live}
use Rattle.decisions.proofs.Machines.{next_keeps}

-- a turn from s by the event e to t: nothing accepted and the cost as it was; or one more accepted, whose cost is t's
data Tells (s : State) (e : Raw) (t : State) : Type 0 where
  stayed : t.accepted ≡ s.accepted → t.cost ≡ s.cost → Tells s e t
  moved : t.accepted ≡ one_more s.accepted → e ≡ raw.Priced t.cost → Tells s e t

module _ (limit : ℕ) (tolerance : Float) (s : State) where
  chosen : (e : Raw) (b : Bool) (n m : Next) → Tells s e (state_of n) → Tells s e (state_of m) → Tells s e (state_of (if_then b n m))
  unfolding if_then
  chosen e true n m f g = f
  chosen e false n m f g = g

  rejecting_tells : (e : Raw) → Tells s e (state_of (rejecting s limit))
  unfolding rejecting
  rejecting_tells e = chosen e _ _ _ (stayed refl refl) (chosen e _ _ _ (stayed refl refl) (stayed refl refl))

  failing_tells : (e : Raw) → Tells s e (state_of (failing s))
  unfolding failing
  failing_tells e = chosen e _ _ _ (stayed refl refl) (stayed refl refl)

  accepting_tells : (new : Float) → Tells s (raw.Priced new) (state_of (accepting s tolerance new))
  unfolding accepting
  accepting_tells new = chosen (raw.Priced new) _ _ _ (moved refl refl) (moved refl refl)

  solved_tells : (e : Raw) → Tells s e (state_of (solved s limit tolerance (heard s.cost e)))
  unfolding solved heard judged if_then
  solved_tells raw.Failed = failing_tells raw.Failed
  solved_tells raw.Small = stayed refl refl
  solved_tells (raw.Numerical r) = rejecting_tells (raw.Numerical r)
  solved_tells (raw.Priced new) = at (lt new s.cost)
    where
      at : (b : Bool)
          → Tells s (raw.Priced new) (state_of (solved s limit tolerance (outcome.Tried (if_then b (trial.Accepted new) (trial.Rejected reason.Cost)))))
      at true = accepting_tells new
      at false = rejecting_tells (raw.Priced new)

  turned_tells : (a : Assembly) (e : Raw) → Tells s e (state_of (after_turn limit tolerance s a e))
  unfolding after_turn passed assembled then_solve if_then
  turned_tells a e = top s.fresh (leb limit (iterations s)) a
    where
      over : (a : Assembly) → Tells s e (state_of (then_solve (assembled a) limit tolerance s e))
      over (assembly.Refused r) = stayed refl refl
      over assembly.Flat = stayed refl refl
      over assembly.Steep = solved_tells e

      top : (fresh spent : Bool) (a : Assembly)
          → Tells s e (state_of (then_solve (if_then fresh (if_then spent (Some (Ok why.Budget)) (assembled a)) None) limit tolerance s e))
      top true true a = stayed refl refl
      top true false a = over a
      top false spent a = solved_tells e

-- C x c: what is held, x, has the cost c
module _ {X : Type 0} (C : X → Float → Type 0) (m : Numerics X)
    (priced : (x : X) (damping new : Float) → m.attempt x damping ≡ raw.Priced new → C (m.moved x damping) new) (limit : ℕ) (tolerance : Float) where
  turn_holds : (first : Float) (s : State) (x : X) (t : State) → Live limit first s → Tells s (m.attempt x s.damping) t → C x s.cost
      → C (moved_on s t (m.moved x s.damping) x) t.cost
  unfolding moved_on
  turn_holds first s x t live (stayed a c) h =
      subst (λ (y : X). C y t.cost) (left _ (le-ltb s.accepted t.accepted (le_of_eq a)) refl) (subst (C x) (sym c) h)
  turn_holds first s x t live (moved a e) h =
      let more : t.accepted ≡ s.accepted + 1 = rw a (more_accepted limit first s live) in
      let l : s.accepted < t.accepted = omega arith in
      subst (λ (y : X). C y t.cost) (taken _ (lt-ltb s.accepted t.accepted l) refl) (priced x s.damping t.cost e)

  next_holds : (first : Float) (n : Next) (x : X) → Kept limit first n → C x (state_of n).cost
      → C (held_of m limit tolerance n x) (state_of (next_of m limit tolerance n x)).cost
  unfolding held_of next_of
  next_holds first (next.On s) x k h =
      turn_holds first s x _ k (turned_tells limit tolerance s (m.assemble x) (m.attempt x s.damping)) h
  next_holds first (next.Over s e) x k h = h

  play_holds : (turns : ℕ) (first : Float) (n : Next) (x : X) → Kept limit first n → C x (state_of n).cost
      → C (play m limit tolerance turns n x).held (state_of (play m limit tolerance turns n x).next).cost
  unfolding play
  play_holds zero first n x k h = h
  play_holds (suc turns) first n x k h =
      play_holds turns first (next_of m limit tolerance n x) (held_of m limit tolerance n x) (next_keeps m limit tolerance first n x k) (next_holds first n x k h)

  pub played_holds : (cost damping : Float) (x : X) → limit ≤ 1000 → T (fits binary32 damping) → lt (num 0) damping ≡ true → le damping lambda_max ≡ true → C x cost
      → C (played m limit tolerance cost damping x).held (state_of (played m limit tolerance cost damping x).next).cost
  played_holds cost damping x l f p u h = play_holds (enough limit) cost (next.On (begun cost damping)) x (begun_live limit cost damping l f p u) h
