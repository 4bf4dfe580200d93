-- Which refusals the machine can end with: those of its assemblies, and 22. Assumes nothing.
use Prim.Native.Nat.{ℕ, zero, suc}
use native.Mathlib.Omega.{arith}
use Rattle.std.specs.Prelude.{Err, None, Ok, Some}
use mathlib.Core.Path.{◌≡◌, refl, subst}
use mathlib.Core.Bool.{Bool, true, false}
use lib.Dec.{leb}
use lib.Ieee.{Float}
use Rattle.numbers.specs.Notation.{if_then}
use Rattle.numbers.specs.Refusals.{refusal}
use Rattle.numbers.specs.declared.Refusal.{Refusal}
use Rattle.decisions.specs.declared.State.{State}
use Rattle.decisions.specs.declared.Assembly.{Assembly}
use Rattle.decisions.specs.declared.Assembly.TheVariants as assembly
use Rattle.decisions.specs.declared.Raw.{Raw}
use Rattle.decisions.specs.declared.Outcome.{Outcome}
use Rattle.decisions.specs.declared.Outcome.TheVariants as outcome
use Rattle.decisions.specs.declared.Trial.TheVariants as trial
use Rattle.decisions.specs.declared.Why.{Why}
use Rattle.decisions.specs.declared.Why.TheVariants as why
use Rattle.decisions.specs.declared.Next.{Next}
use Rattle.decisions.specs.declared.Next.TheVariants as next
use Rattle.decisions.specs.Run.{begun, iterations, heard, stop, failing, accepting, rejecting, solved, assembled, passed, then_solve, after_turn}
use Rattle.decisions.specs.Machine.{Numerics, next_of, held_of, play, enough, played}

-- Q holds of every refusal that one ends with
module _ (Q : Refusal → Type 0) where
  abbrev Ends : Next → Type 0
  Ends n = (s : State) (r : Refusal) → n ≡ next.Over s (Err r) → Q r

  on : (s : State) → Ends (next.On s)
  on s t r e = let z : ◌≡◌ {A = ℕ} 0 1 = cc in absurd (omega arith)

  stopped : (s : State) (w : Why) → Ends (stop s w)
  stopped s w t r e = let z : ◌≡◌ {A = ℕ} 0 1 = cc in absurd (omega arith)

  refused : (s : State) (q : Refusal) → Q q → Ends (next.Over s (Err q))
  refused s q h t r e = let d : q ≡ r = cc in subst Q d h

  chosen : (b : Bool) (n m : Next) → Ends n → Ends m → Ends (if_then b n m)
  unfolding if_then
  chosen true n m f g = f
  chosen false n m f g = g

  -- the top, whose assembly refuses by Q alone
  abbrev pub Assembles : Assembly → Type 0
  Assembles a = (r : Refusal) → a ≡ assembly.Refused r → Q r

  module _ (damped : Q (refusal 22 0)) (limit : ℕ) (tolerance : Float) where
    solved_ends : (s : State) (o : Outcome) → Ends (solved s limit tolerance o)
    unfolding solved failing accepting rejecting
    solved_ends s outcome.Failed = chosen _ _ _ (refused _ _ damped) (on _)
    solved_ends s outcome.Small = stopped _ _
    solved_ends s (outcome.Tried (trial.Accepted new)) = chosen _ _ _ (stopped _ _) (on _)
    solved_ends s (outcome.Tried (trial.Rejected r)) = chosen _ _ _ (stopped _ _) (chosen _ _ _ (stopped _ _) (on _))

    turned_ends : (s : State) (a : Assembly) (e : Raw) → Assembles a → Ends (after_turn limit tolerance s a e)
    unfolding after_turn passed assembled then_solve if_then
    turned_ends s a e h = top s.fresh (leb limit (iterations s)) a h
      where
        over : (a : Assembly) → Assembles a → Ends (then_solve (assembled a) limit tolerance s e)
        over (assembly.Refused r) h = refused s r (h r refl)
        over assembly.Flat h = stopped s why.Gradient
        over assembly.Steep h = solved_ends s (heard s.cost e)

        top : (fresh spent : Bool) (a : Assembly) → Assembles a
            → Ends (then_solve (if_then fresh (if_then spent (Some (Ok why.Budget)) (assembled a)) None) limit tolerance s e)
        top true true a h = stopped s why.Budget
        top true false a h = over a h
        top false spent a h = solved_ends s (heard s.cost e)

    module _ {X : Type 0} (m : Numerics X) (h : (x : X) → Assembles (m.assemble x)) where
      next_ends : (n : Next) (x : X) → Ends n → Ends (next_of m limit tolerance n x)
      unfolding next_of
      next_ends (next.On s) x e = turned_ends s (m.assemble x) (m.attempt x s.damping) (h x)
      next_ends (next.Over s w) x e = e

      play_ends : (k : ℕ) (n : Next) (x : X) → Ends n → Ends (play m limit tolerance k n x).next
      unfolding play
      play_ends zero n x e = e
      play_ends (suc k) n x e = play_ends k (next_of m limit tolerance n x) (held_of m limit tolerance n x) (next_ends n x e)

      pub played_refuses : (cost damping : Float) (x : X) (s : State) (r : Refusal)
          → (played m limit tolerance cost damping x).next ≡ next.Over s (Err r) → Q r
      played_refuses cost damping x = play_ends (enough limit) (next.On (begun cost damping)) x (on (begun cost damping))
