-- A turn of the run: what follows a solve, and the top. Assumes nothing.
use Rattle.numbers.specs.declared.Refusal.{Refusal}
use Rattle.decisions.specs.declared.Why.{Why}
use Rattle.std.specs.Prelude.{None, Ok, Option, Result, Some}
use mathlib.Core.Path.{◌≡◌, refl, sym, ap, ◌∙◌, subst}
use mathlib.Core.Bool.{Bool, true, false}
use mathlib.Core.List.{List}
use Prim.Native.Nat.{ℕ, ◌+◌, ◌<◌}
use native.Mathlib.Nat.{le_refl}
use native.Mathlib.Omega.{arith}
use borrow.Author.Tests.{le-ltb, lt-ltb, ne_eqb}
use lib.Dec.{ltb, leb, eqb}
use lib.ListN.{length}
use lib.Ieee.{Float}
use Rattle.numbers.specs.Notation.{if_then}
use Rattle.numbers.proofs.Choices.{left}
use Rattle.graph.specs.Graph.{Links}
use Rattle.graph.specs.declared.Edge.{Edge}
use Rattle.profile.specs.Layout.{need}
use Rattle.decisions.specs.Run.{iterations, one_more, after_accepted, failing, accepting, rejecting, solved, assembled, passed}
use Rattle.decisions.specs.Machine.{moved_on, state_of}
use Rattle.decisions.specs.declared.State.{State}
use Rattle.decisions.specs.declared.Trial.TheVariants as trial
use Rattle.decisions.specs.declared.Assembly.{Assembly}
use Rattle.decisions.specs.declared.Assembly.TheVariants as assembly
use Rattle.decisions.specs.declared.Outcome.{Outcome}
use Rattle.decisions.specs.declared.Outcome.TheVariants as outcome
use Rattle.decisions.specs.declared.Why.TheVariants as why
use Rattle.decisions.specs.declared.Next.{Next}
use Rattle.decisions.specs.declared.Next.TheVariants as next
use Rattle.decisions.proofs.Ways.{turned_stop, turned_go, passed_again}
use Rattle.sparse_pgo.specs.declared.Setup.{Setup}
use Rattle.sparse_pgo.specs.Parts.{numerics}
use Rattle.sparse_pgo.specs.forms.Turns.{parts_in, held_in, Holds, AtTop, PassedTop, accepts, Attempted, Turned}
use Rattle.sparse_pgo.proofs.Assembling.{Made}

-- ---- the state after a solve: one more accepted exactly where the trial was, and then the system is to be assembled

-- of a choice, what is shown of both
both : (P : Next → Type 0) (b : Bool) (x y : Next) → P x → P y → P (if_then b x y)
unfolding if_then
both P true x y p q = p
both P false x y p q = q

module _ (limit : ℕ) (tolerance : Float) (s : State) where
  -- whether one more is accepted
  abbrev More : Bool → Next → Type 0
  More a n = ltb s.accepted (state_of n).accepted ≡ a

  same_count : ltb s.accepted s.accepted ≡ false
  same_count = le-ltb s.accepted s.accepted (le_refl s.accepted)

  one_more_lem : s.accepted < 4294967295 → ltb s.accepted (one_more s.accepted) ≡ true
  unfolding one_more
  one_more_lem h =
      let e : s.accepted + 1 ≡ if_then (eqb s.accepted 4294967295) s.accepted (s.accepted + 1) = left _ (ne_eqb s.accepted 4294967295 (λ e. omega arith)) refl in
      rw (← e) (lt-ltb s.accepted (s.accepted + 1) (omega arith))

  accepts_more : (o : Outcome) → s.accepted < 4294967295 → More (accepts o) (solved s limit tolerance o)
  unfolding solved failing accepting rejecting
  accepts_more outcome.Failed h = both (More false) _ _ _ same_count same_count
  accepts_more outcome.Small h = same_count
  accepts_more (outcome.Tried (trial.Accepted c)) h = both (More true) _ _ _ (one_more_lem h) (one_more_lem h)
  accepts_more (outcome.Tried (trial.Rejected w)) h = both (More false) _ _ _ same_count (both (More false) _ _ _ same_count same_count)

  -- on to the same system: nothing was accepted
  same_system : (o : Outcome) (t : State) → solved s limit tolerance o ≡ next.On t → t.fresh ≡ false → accepts o ≡ false
  unfolding solved accepting
  same_system outcome.Failed t e f = refl
  same_system outcome.Small t e f = refl
  same_system (outcome.Tried (trial.Accepted c)) t e f =
      both (λ n. n ≡ next.On t → true ≡ false) _ _ _
      (λ e. let z : ◌≡◌ {A = ℕ} 0 1 = cc in absurd (omega arith))
      (λ e. let g : after_accepted s c ≡ t = cc in ap (λ (z : State). z.fresh) g ∙ f)
      e
  same_system (outcome.Tried (trial.Rejected w)) t e f = refl

  -- ---- the top
  go_steep : (a : Assembly) → s.fresh ≡ true → passed limit s a ≡ None → a ≡ assembly.Steep
  unfolding passed if_then assembled
  go_steep a f = rw f (at (leb limit (iterations s)) a)
    where
      at : (b : Bool) (a : Assembly) → if_then b (Some (Ok why.Budget)) (assembled a) ≡ None → a ≡ assembly.Steep
      at true a e = let z : ◌≡◌ {A = ℕ} 0 1 = cc in absurd (omega arith)
      at false (assembly.Refused r) e = let z : ◌≡◌ {A = ℕ} 0 1 = cc in absurd (omega arith)
      at false assembly.Flat e = let z : ◌≡◌ {A = ℕ} 0 1 = cc in absurd (omega arith)
      at false assembly.Steep e = refl

  limit_stops : (a : Assembly) → s.fresh ≡ true → leb limit (iterations s) ≡ true → passed limit s a ≡ Some (Ok why.Budget)
  unfolding passed if_then
  limit_stops a f e = rw (f, e)

-- ---- the top, at the poses x

module _ (setup : Setup) (l : Links Edge) (s : State) (x : List Float) where
  abbrev due : Assembly
  due = (numerics (parts_in setup l)).assemble x

  -- the system stands in the work already
  pub top_again : {w32 : List Float} → length w32 ≡ need setup.n → s.fresh ≡ false → AtTop setup l s x w32 → PassedTop setup l s x None w32
  top_again long f r = record { long = long; answer = sym (passed_again setup.settings.limit setup.settings.cost_tolerance s due f); holds = λ _. r f }

  -- at the limit nothing is assembled
  pub top_limit : {w32 : List Float} → length w32 ≡ need setup.n → s.fresh ≡ true → leb setup.settings.limit (iterations s) ≡ true
      → PassedTop setup l s x (Some (Ok why.Budget)) w32
  top_limit long f q =
      record {
        long = long;
        answer = sym (limit_stops setup.settings.limit setup.settings.cost_tolerance s due f q);
        holds = λ e. let z : ◌≡◌ {A = ℕ} 0 1 = cc in absurd (omega arith);
      }

  -- after an assembly
  pub top_made : {w32 : List Float} {a : Assembly} {g : Option (Result Why Refusal)} → s.fresh ≡ true → Made setup l x a w32 → g ≡ passed setup.settings.limit s a → PassedTop setup l s x g w32
  unfolding numerics
  top_made {w32} {a} {g} f m q =
      record {
        long = m.long;
        answer = q ∙ ap (passed setup.settings.limit s) m.answer;
        holds = λ e. m.holds (go_steep setup.settings.limit setup.settings.cost_tolerance s a f (sym q ∙ e));
      }

-- ---- a turn

module _ {setup : Setup} {l : Links Edge} {s : State} (before : List Float) {w32 : List Float} {g : Option (Result Why Refusal)} (p : PassedTop setup l s (held_in setup before) g w32) where
  abbrev limit : ℕ
  limit = setup.settings.limit

  abbrev tolerance : Float
  tolerance = setup.settings.cost_tolerance

  abbrev x : List Float
  x = held_in setup before

  -- what the assembly comes to
  abbrev a : Assembly
  a = (numerics (parts_in setup l)).assemble x

  -- the top stops the run, and nothing has moved
  pub turn_stop : {e : Result Why Refusal} → g ≡ Some e → Turned setup l s before (next.Over s e) w32 before
  unfolding moved_on
  turn_stop {e} k =
      record {
        long = p.long;
        answer = sym (turned_stop limit tolerance s a _ e (sym p.answer ∙ k));
        held = left _ (same_count limit tolerance s) refl;
        holds = λ t r f. let z : ◌≡◌ {A = ℕ} 0 1 = cc in absurd (omega arith);
      }

  -- a solve follows the top
  pub turn_go : s.accepted < 4294967295 → g ≡ None → {o : Outcome} {w32' after : List Float} {r : Next} → Attempted setup l s before o w32' after
      → r ≡ solved s setup.settings.limit setup.settings.cost_tolerance o → Turned setup l s before r w32' after
  unfolding moved_on
  turn_go few k {o} {w32'} {after} {r} h e =
      record {
        long = h.long;
        answer =
            e
            ∙ ap (solved s limit tolerance) h.answer
            ∙ sym (turned_go limit tolerance s a _ (sym p.answer ∙ k));
        held =
            h.held
            ∙ ap (λ (z : Bool). if_then z ((numerics (parts_in setup l)).moved x s.damping) x) (sym (accepts_more limit tolerance s o few))
            ∙ ap (λ (z : Next). if_then (ltb s.accepted (state_of z).accepted) ((numerics (parts_in setup l)).moved x s.damping) x) (sym e);
        holds = λ t q f.
            let n : accepts o ≡ false = same_system limit tolerance s o t (sym e ∙ q) f in
            let y : x ≡ held_in setup after = left _ n refl ∙ sym h.held in
            subst (λ (z : List Float). Holds setup l z w32') y h.holds;
      }
