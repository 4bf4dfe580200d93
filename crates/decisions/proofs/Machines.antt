-- The run over numerics: demand 3 holds of it, it ends within `enough` turns, and while A is 0 what the numerics hold is as it was. Assumes nothing.
use Rattle.numbers.specs.declared.Refusal.{Refusal}
use Rattle.decisions.specs.declared.Why.{Why}
use Rattle.std.specs.Prelude.{Result}
use mathlib.Core.Path.{◌≡◌, refl, sym, ◌∙◌, ap, subst}
use mathlib.Core.Bool.{Bool, true, false}
use Prim.Native.Nat.{ℕ, zero, suc, ◌+◌, ◌≤◌, ◌<◌}
use native.Mathlib.Nat.{le_refl, le_trans, le_of_eq, not-le_of_lt, zero-add}
use native.Mathlib.Omega.{arith}
use lib.Dec.{T, eqb}
use lib.Ieee.{Float, binary32, lt, le, fits}
use borrow.Author.Tests.{le-ltb}
use Rattle.numbers.specs.Notation.{num, if_then}
use Rattle.numbers.proofs.Choices.{left}
use Rattle.decisions.specs.Damping.{lambda_max}
use Rattle.decisions.specs.Run.{begun, one_more, after_turn}
use Rattle.decisions.specs.Demand.{Held}
use Rattle.decisions.specs.Machine.{Numerics, Play, moved_on, next_of, held_of, play, played, enough, state_of, ended}
use Rattle.decisions.specs.declared.State.{State}
use Rattle.decisions.specs.declared.Assembly.{Assembly}
use Rattle.decisions.specs.declared.Raw.{Raw}
use Rattle.decisions.specs.declared.Next.{Next}
use Rattle.decisions.specs.declared.Next.TheVariants as next
use Rattle.decisions.proofs.Ways.{Both, Cases, turn_cases}
use Rattle.decisions.proofs.Bounds.{Live, Kept, turn_keeps, kept_held, begun_live, more_solves}

-- ---- one turn: no accepted trial is taken back; a state that goes on has one solve more, and where it goes on to the same system it has accepted nothing
Grown : State → State → Type 0
Grown s t = s.accepted ≤ t.accepted

record Stepped (s t : State) : Type 0 where
  grown : Grown s t
  stayed : t.fresh ≡ false → t.accepted ≡ s.accepted
  one : t.solves ≡ one_more s.solves

no_less : (n : ℕ) → n ≤ one_more n
unfolding one_more if_then
no_less n = go (eqb n 4294967295)
  where
    go : (b : Bool) → n ≤ if_then b n (n + 1)
    go true = le_refl n
    go false = omega arith

steps : (limit : ℕ) (s : State) → Cases (Stepped s) (Grown s) limit s
unfolding Grown
steps limit s =
    record {
      stopped = le_refl s.accepted;
      fail_on = λ past e. record { grown = le_refl s.accepted; stayed = λ f. refl; one = refl };
      fail_over = le_refl s.accepted;
      small = le_refl s.accepted;
      accept_on = λ past new l. record { grown = no_less s.accepted; stayed = λ f. absurd (subst T f tt); one = refl };
      accept_over = λ past new l. no_less s.accepted;
      reject_on = λ past e l. record { grown = le_refl s.accepted; stayed = λ f. refl; one = refl };
      reject_over = λ past. le_refl s.accepted;
    }

module _ (limit : ℕ) (tolerance : Float) (s : State) (a : Assembly) (e : Raw) where
  turn_steps : Both (Stepped s) (Grown s) (after_turn limit tolerance s a e)
  turn_steps = turn_cases (Stepped s) (Grown s) limit tolerance s (steps limit s) a e

  turn_grows : s.accepted ≤ (state_of (after_turn limit tolerance s a e)).accepted
  unfolding Grown
  turn_grows = at (after_turn limit tolerance s a e) turn_steps
    where
      at : (n : Next) → Both (Stepped s) (Grown s) n → s.accepted ≤ (state_of n).accepted
      at (next.On t) h = h.grown
      at (next.Over t w) h = h

  module _ (t : State) (q : after_turn limit tolerance s a e ≡ next.On t) where
    stepped : Stepped s t
    stepped = subst (Both (Stepped s) (Grown s)) q turn_steps

    -- on to the same system: nothing has moved
    pub turn_stays : {X : Type 0} (y x : X) → t.fresh ≡ false → moved_on s t y x ≡ x
    unfolding moved_on
    turn_stays y x f = sym (left y (le-ltb s.accepted t.accepted (le_of_eq (stepped.stayed f))) refl)

    pub turn_live : (first : Float) → Live limit first s → Live limit first t
    turn_live first h = subst (Kept limit first) q (turn_keeps limit tolerance first s a e h)

    pub turn_one : (first : Float) → Live limit first s → t.solves ≡ s.solves + 1
    turn_one first h = stepped.one ∙ more_solves limit first s h

-- a state that goes on has turns left
pub live_solves : (limit : ℕ) (first : Float) (s : State) → Live limit first s → s.solves < enough limit
live_solves limit first s h = omega (arith, h.tried, h.trials, h.level.low)

module _ {X : Type 0} (m : Numerics X) (limit : ℕ) (tolerance : Float) where
  pub play_over : (k : ℕ) (s : State) (e : Result Why Refusal) (x : X) → play m limit tolerance k (next.Over s e) x ≡ record { next = next.Over s e; held = x }
  unfolding play next_of held_of
  play_over zero s e x = refl
  play_over (suc k) s e x = play_over k s e x

  -- ---- the bounds
  pub next_keeps : (first : Float) (n : Next) (x : X) → Kept limit first n → Kept limit first (next_of m limit tolerance n x)
  unfolding next_of
  next_keeps first (next.On s) x h = turn_keeps limit tolerance first s (m.assemble x) (m.attempt x s.damping) h
  next_keeps first (next.Over s e) x h = h

  play_keeps : (k : ℕ) (first : Float) (n : Next) (x : X) → Kept limit first n → Kept limit first (play m limit tolerance k n x).next
  unfolding play
  play_keeps zero first n x h = h
  play_keeps (suc k) first n x h = play_keeps k first (next_of m limit tolerance n x) (held_of m limit tolerance n x) (next_keeps first n x h)

  -- ---- what is held
  Same : X → Next → X → Type 0
  Same first n x = (state_of n).accepted ≡ 0 → x ≡ first

  same_step : (first : X) (n : Next) (x : X) → Same first n x → Same first (next_of m limit tolerance n x) (held_of m limit tolerance n x)
  unfolding Same next_of held_of moved_on
  same_step first (next.On s) x h z =
      let t = state_of (after_turn limit tolerance s (m.assemble x) (m.attempt x s.damping)) in
      let g : s.accepted ≤ t.accepted = turn_grows limit tolerance s (m.assemble x) (m.attempt x s.damping) in
      let a : s.accepted ≡ 0 = omega arith in
      let b : t.accepted ≤ s.accepted = omega arith in
      sym (left _ (le-ltb s.accepted t.accepted b) refl) ∙ h a
  same_step first (next.Over s e) x h z = h z

  play_same : (k : ℕ) (first : X) (n : Next) (x : X) → Same first n x → Same first (play m limit tolerance k n x).next (play m limit tolerance k n x).held
  unfolding play
  play_same zero first n x h = h
  play_same (suc k) first n x h = play_same k first (next_of m limit tolerance n x) (held_of m limit tolerance n x) (same_step first n x h)

  -- ---- it ends
  play_ends : (k : ℕ) (first : Float) (s : State) (x : X) → Live limit first s → enough limit ≤ k + s.solves → ended (play m limit tolerance k (next.On s) x).next ≡ true
  unfolding play next_of
  play_ends zero first s x h l = absurd (not-le_of_lt (live_solves limit first s h) (le_trans l (le_of_eq (zero-add s.solves))))
  play_ends (suc k) first s x h l = at (after_turn limit tolerance s (m.assemble x) (m.attempt x s.damping)) (λ t g b. play_ends k first t (held_of m limit tolerance (next.On s) x) g b) refl
    where
      y : X
      y = held_of m limit tolerance (next.On s) x

      at : (n : Next) → ((t : State) → Live limit first t → enough limit ≤ k + t.solves → ended (play m limit tolerance k (next.On t) y).next ≡ true)
          → after_turn limit tolerance s (m.assemble x) (m.attempt x s.damping) ≡ n → ended (play m limit tolerance k n y).next ≡ true
      at (next.On t) ih q =
          let o : t.solves ≡ s.solves + 1 = turn_one limit tolerance s (m.assemble x) (m.attempt x s.damping) t q first h in
          ih t (turn_live limit tolerance s (m.assemble x) (m.attempt x s.damping) t q first h) (omega arith)
      at (next.Over t e) ih q = ap (λ (p : Play X). ended p.next) (play_over k t e y)

  -- ---- the whole run, for a limit and a first damping that pass the checks
  module _ (cost damping : Float) (x : X) (l : limit ≤ 1000) (f : T (fits binary32 damping)) (p : lt (num 0) damping ≡ true) (u : le damping lambda_max ≡ true) where
    -- demand 3's bounds and its cost
    pub played_held : Held limit cost (state_of (played m limit tolerance cost damping x).next)
    played_held =
        kept_held limit cost (played m limit tolerance cost damping x).next
        (play_keeps (enough limit) cost (next.On (begun cost damping)) x (begun_live limit cost damping l f p u))

    -- a state that it goes on from is live
    pub played_live : (k : ℕ) (s : State) → (play m limit tolerance k (next.On (begun cost damping)) x).next ≡ next.On s → Live limit cost s
    played_live k s e = subst (Kept limit cost) e (play_keeps k cost (next.On (begun cost damping)) x (begun_live limit cost damping l f p u))

    -- it has ended
    pub played_ends : ended (played m limit tolerance cost damping x).next ≡ true
    played_ends = play_ends (enough limit) cost (begun cost damping) x (begun_live limit cost damping l f p u) (omega arith)

  -- demand 3: where A is 0, what is held is what was given
  pub played_same : (cost damping : Float) (x : X) → (state_of (played m limit tolerance cost damping x).next).accepted ≡ 0 → (played m limit tolerance cost damping x).held ≡ x
  unfolding Same
  played_same cost damping x z = play_same (enough limit) x (next.On (begun cost damping)) x (λ e. refl) z
