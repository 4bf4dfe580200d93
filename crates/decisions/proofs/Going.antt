-- What a loop that computes its events keeps, and what it knows at its end. Assumes nothing.
use Rattle.numbers.specs.declared.Refusal.{Refusal}
use Rattle.decisions.specs.declared.Why.{Why}
use Rattle.std.specs.Prelude.{Result, Some}
use mathlib.Core.Path.{◌≡◌, refl, sym, ◌∙◌, ap}
use mathlib.Core.Bool.{true}
use Prim.Native.Nat.{ℕ, suc, ◌+◌, ◌-◌, ◌≤◌, ◌<◌}
use native.Mathlib.Nat.{le_refl}
use native.Mathlib.Omega.{arith}
use lib.Dec.{T}
use lib.Ieee.{Float, binary32, lt, le, fits}
use borrow.Author.Tests.{le-ltb}
use Rattle.numbers.specs.Notation.{num}
use Rattle.numbers.proofs.Choices.{left}
use Rattle.decisions.specs.Damping.{lambda_max}
use Rattle.decisions.specs.Run.{begun, passed, after_turn}
use Rattle.decisions.specs.Machine.{Numerics, moved_on, next_of, held_of, play, played, enough, state_of}
use Rattle.decisions.specs.declared.State.{State}
use Rattle.decisions.specs.declared.Next.{Next}
use Rattle.decisions.specs.declared.Next.TheVariants as next
use Rattle.decisions.proofs.Ways.{turned_stop}
use Rattle.decisions.proofs.Bounds.{Live, begun_live}
use Rattle.decisions.proofs.Machines.{turn_live, turn_one, live_solves, play_over}

-- The loop's invariant: the state is live, and the whole run is what is left of it from here.
pub record Going {X : Type 0} (m : Numerics X) (limit : ℕ) (tolerance cost damping : Float) (given : X) (s : State) (x : X) : Type 0 where
  pub live : Live limit cost s
  pub rest : played m limit tolerance cost damping given ≡ play m limit tolerance (enough limit - s.solves) (next.On s) x

-- its measure
abbrev pub turns_left : ℕ → State → ℕ
turns_left limit s = enough limit - s.solves

module _ {X : Type 0} (m : Numerics X) (limit : ℕ) (tolerance cost damping : Float) (given : X) where
  pub going_begin : limit ≤ 1000 → T (fits binary32 damping) → lt (num 0) damping ≡ true → le damping lambda_max ≡ true → Going m limit tolerance cost damping given (begun cost damping) given
  going_begin l f p u =
      record {
        live = begun_live limit cost damping l f p u;
        rest = let e : enough limit ≡ enough limit - 0 = omega arith in ap (λ (k : ℕ). play m limit tolerance k (next.On (begun cost damping)) given) e;
      }

  module _ (s : State) (x : X) (g : Going m limit tolerance cost damping given s x) where
    -- the next turn, and what is held after it where the run has come to t
    abbrev turn : Next
    turn = after_turn limit tolerance s (m.assemble x) (m.attempt x s.damping)

    abbrev then : State → X
    then t = moved_on s t (m.moved x s.damping) x

    -- one turn of the rest
    turn_rest : played m limit tolerance cost damping given ≡ play m limit tolerance (enough limit - (s.solves + 1)) turn (then (state_of turn))
    unfolding play next_of held_of
    turn_rest =
        let b : s.solves < enough limit = live_solves limit cost s g.live in
        let e : enough limit - s.solves ≡ suc (enough limit - (s.solves + 1)) = omega arith in
        g.rest ∙ ap (λ (k : ℕ). play m limit tolerance k (next.On s) x) e

    module _ (t : State) (q : after_turn limit tolerance s (m.assemble x) (m.attempt x s.damping) ≡ next.On t) where
      pub going_on : Going m limit tolerance cost damping given t (moved_on s t (m.moved x s.damping) x)
      going_on =
          record {
            live = turn_live limit tolerance s (m.assemble x) (m.attempt x s.damping) t q cost g.live;
            rest =
                turn_rest
                ∙ ap (λ (n : Next). play m limit tolerance (enough limit - (s.solves + 1)) n (then (state_of n))) q
                ∙ ap (λ (k : ℕ). play m limit tolerance (enough limit - k) (next.On t) (then t)) (sym (turn_one limit tolerance s (m.assemble x) (m.attempt x s.damping) t q cost g.live));
          }

      pub going_less : turns_left limit t < turns_left limit s
      going_less =
          let o : t.solves ≡ s.solves + 1 = turn_one limit tolerance s (m.assemble x) (m.attempt x s.damping) t q cost g.live in
          let b : s.solves < enough limit = live_solves limit cost s g.live in
          omega arith

    pub going_done : (t : State) (e : Result Why Refusal) → after_turn limit tolerance s (m.assemble x) (m.attempt x s.damping) ≡ next.Over t e
        → played m limit tolerance cost damping given ≡ record { next = next.Over t e; held = moved_on s t (m.moved x s.damping) x }
    going_done t e q =
        turn_rest
        ∙ ap (λ (n : Next). play m limit tolerance (enough limit - (s.solves + 1)) n (then (state_of n))) q
        ∙ play_over m limit tolerance (enough limit - (s.solves + 1)) t e (then t)

    -- where the top stops the run, nothing has moved
    pub going_stop : (e : Result Why Refusal) → passed limit s (m.assemble x) ≡ Some e → played m limit tolerance cost damping given ≡ record { next = next.Over s e; held = x }
    unfolding moved_on
    going_stop e q =
        going_done s e (turned_stop limit tolerance s (m.assemble x) (m.attempt x s.damping) e q)
        ∙ ap (λ (y : X). record { next = next.Over s e; held = y }) (sym (left _ (le-ltb s.accepted s.accepted (le_refl s.accepted)) refl))
