-- What `solve_damped` answers and leaves, at each of its returns. Assumes nothing.
use mathlib.Core.Path.{◌≡◌, refl, sym, ap, ◌∙◌, subst}
use mathlib.Core.Bool.{true, false, true≢false}
use mathlib.Core.List.{List}
use mathlib.Core.Logic.{inl, inr}
use Prim.Native.Nat.{ℕ, ◌+◌, ◌*◌, ◌<◌, ◌≤◌}
use native.Mathlib.Omega.{arith}
use lib.Dec.{leb}
use borrow.Author.Tests.{leb-true, lt-ltb, le-ltb}
use lib.ListN.{length, get_or}
use lib.Ieee.{Float, nan}
use Rattle.numbers.proofs.Choices.{taken, left}
use Rattle.std.specs.Prelude.{Result, Ok, Err, ⊤, Option, Some, None, is_some, ◌⊎◌}
use Rattle.std.specs.Option.{ok_or}
use Rattle.solve.specs.declared.SolveError.{SolveError}
use Rattle.solve.specs.declared.SolveError.TheVariants.{Failed, Short}
use Rattle.solve.specs.Rule.{nothing}
use Rattle.profile.specs.Layout.{need}
use Rattle.profile.specs.Starts.{starts_of}
use Rattle.solve.specs.Work.{work_after, step_in, solved_as, leaves}
use Rattle.solve.specs.forms.Profile.{step_of, cleared_at, solved_from}
use Rattle.profile.proofs.Zeros.{Fits}
use Rattle.solve.proofs.Places.{length_after, after_ext, length_cleared, cleared_in, cleared_spares}
use Rattle.solve.proofs.Firsts.{Starts, starts_are}
use Rattle.solve.proofs.Followed.{Followed, followed}

-- what a test of the room tells
pub room_by : (a b : ℕ) → leb a b ≡ true → a ≤ b
room_by = leb-true

-- the promise
abbrev pub Answered : List Float → ℕ → Float → Result ⊤ SolveError → List Float → Type 0
Answered w n d r v = (r ≡ solved_as w n d) × (v ≡ leaves w n d (solved_as w n d))

answered : (w : List Float) (n : ℕ) (d : Float) (r : Result ⊤ SolveError) (v : List Float) → r ≡ solved_as w n d → v ≡ leaves w n d r → Answered w n d r v
answered w n d r v e h = (e, subst (λ (a : Result ⊤ SolveError). v ≡ leaves w n d a) e h)

pub short : (w : List Float) (n : ℕ) (d : Float) → length w < need n → Answered w n d (Err Short) w
unfolding solved_as
short w n d h = answered w n d (Err Short) w (taken _ (lt-ltb (length w) (need n) h) refl) refl

ok_is : (o : Option ⊤) → is_some o ≡ true → ok_or o Failed ≡ Ok tt
ok_is (Some x) h = refl
ok_is None h = absurd (true≢false (sym h))

err_is : (o : Option ⊤) → is_some o ≡ false → ok_or o Failed ≡ Err Failed
err_is (Some x) h = absurd (true≢false h)
err_is None h = refl

-- u: the work w with L's places cleared; o and v: what the solve by the profile F answers and leaves of it
module _ (w u v : List Float) (n : ℕ) (F : List ℕ) (d : Float) (o : Option ⊤) (long : need n ≤ length w) (clean : u ≡ work_after w n (step_of w n)) (st : F ≡ starts_of u n)
    (fit : (q : ℕ) → Fits (get_or u q nan)) (is : (is_some o, v) ≡ solved_from u n F d) where
  follows : Followed w n d (is_some o) v
  follows =
      followed w n F d long (subst (λ (z : List Float). Starts z n F) clean (starts_are u n F (omega (arith, ap length clean, length_after w n (step_of w n))) fit st)) (subst (λ (z : List Float). (q : ℕ) → Fits (get_or z q nan)) clean fit) (is_some o) v
      (is ∙ ap (λ (z : List Float). solved_from z n F d) clean)

  -- y and z: with the step cleared where there is none, and then with L's places cleared
  module _ (y z : List Float) (h : z ≡ work_after y n (step_of y n)) where
    pub solved : is_some o ≡ true → y ≡ v → Answered w n d (Ok tt) z
    unfolding solved_as
    solved t e =
        answered w n d (Ok tt) z (left _ (le-ltb (length w) (need n) long) (taken _ (sym follows.yes ∙ t) refl))
        (h
        ∙ ap (λ (x : List Float). work_after x n (step_of x n)) e
        ∙ after_ext v w n (step_of v n) (step_in w n d) follows.len follows.at (follows.steps t))

    pub failed : is_some o ≡ false → y ≡ cleared_at v (n * n + n + n) n → Answered w n d (Err Failed) z
    unfolding solved_as
    failed t e =
        let o = n * n + n + n in
        let c = cleared_at v o n in
        answered w n d (Err Failed) z (left _ (le-ltb (length w) (need n) long) (left _ (sym follows.yes ∙ t) refl))
        (h
        ∙ ap (λ (x : List Float). work_after x n (step_of x n)) e
        ∙ after_ext c w n (step_of c n) nothing (length_cleared v o n ∙ follows.len)
        (λ q l k. cleared_spares n v q k ∙ follows.at q l k)
        (λ i l. cleared_in v o n (o + i) (omega (arith, follows.len)) (omega arith) (omega arith)))

    pub ended : ((is_some o ≡ true) × (y ≡ v)) ⊎ ((is_some o ≡ false) × (y ≡ cleared_at v (n * n + n + n) n)) → Answered w n d (ok_or o Failed) z
    ended (inl s) = rw (ok_is o s.0) (solved s.0 s.1)
    ended (inr s) = rw (err_is o s.0) (failed s.0 s.1)
