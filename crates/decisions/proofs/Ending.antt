-- The last turn of a run: every way by which a turn ends it, and so what a refusal means and how many solves were tried; every run that is over has such a
-- turn, and a run that comes to such a turn is over by it. Assumes nothing.
use Rattle.decisions.specs.declared.Why.{Why}
use Rattle.std.specs.Prelude.{Err, None, Ok, Option, Result, Some}
use mathlib.Core.Path.{◌≡◌, refl, sym, ap, ◌∙◌, subst}
use mathlib.Core.Logic.{◌⊎◌, inl, inr}
use mathlib.Core.Bool.{Bool, true, false}
use Prim.Native.Nat.{ℕ, zero, suc, ◌≤◌, ◌<◌}
use native.Mathlib.Omega.{arith}
use lib.Dec.{T, leb}
use lib.Ieee.{Float, binary32, lt, le, fits}
use borrow.Author.Tests.{leb-false, lt-leb}
use Rattle.numbers.specs.Notation.{num, if_then}
use Rattle.numbers.specs.Refusals.{refusal}
use Rattle.numbers.specs.declared.Refusal.{Refusal}
use Rattle.decisions.specs.Damping.{increased, lambda_max}
use Rattle.decisions.specs.Run.{begun, iterations, judged, heard, failing, accepting, rejecting, solved, assembled, passed, then_solve, after_turn}
use Rattle.decisions.specs.Run.{after_failed, after_small, after_accepted, after_rejected}
use Rattle.decisions.specs.Machine.{Numerics, Play, moved_on, next_of, held_of, play, played, enough, state_of, ended}
use Rattle.decisions.specs.Demand.{solves_tried}
use Rattle.decisions.specs.declared.State.{State}
use Rattle.decisions.specs.declared.Assembly.{Assembly}
use Rattle.decisions.specs.declared.Assembly.TheVariants as assembly
use Rattle.decisions.specs.declared.Raw.{Raw}
use Rattle.decisions.specs.declared.Raw.TheVariants as raw
use Rattle.decisions.specs.declared.Outcome.TheVariants as outcome
use Rattle.decisions.specs.declared.Trial.TheVariants as trial
use Rattle.decisions.specs.declared.Reason.TheVariants as reason
use Rattle.decisions.specs.declared.Why.TheVariants as why
use Rattle.decisions.specs.declared.Next.{Next}
use Rattle.decisions.specs.declared.Next.TheVariants as next
use Rattle.decisions.proofs.Bounds.{Live, more_accepted, more_rejected, more_failed, more_solves}
use Rattle.decisions.proofs.Machines.{turn_stays, play_over}
use Rattle.decisions.proofs.Going.{Going, going_begin, going_on, going_done}

-- ---- a turn that ends the run, by cases: what is shown of each way holds of the end

pub record LastWays (Q : State → Result Why Refusal → Type 0) (limit : ℕ) (s : State) (a : Assembly) (e : Raw) : Type 0 where
  pub spent : Q s (Ok why.Budget)
  pub flat : Q s (Ok why.Gradient)
  pub refused : (r : Refusal) → s.fresh ≡ true → iterations s < limit → a ≡ assembly.Refused r → Q s (Err r)
  pub overdamped : passed limit s a ≡ None → e ≡ raw.Failed → lt lambda_max (increased s.damping) ≡ true → Q (after_failed s) (Err (refusal 22 0))
  pub small : Q (after_small s) (Ok why.Step)
  pub lowered : (new : Float) → Q (after_accepted s new) (Ok why.Cost)
  pub raised : Q (after_rejected s) (Ok why.Damping)
  pub rejected : Q (after_rejected s) (Ok why.Budget)

module _ (Q : State → Result Why Refusal → Type 0) where
  abbrev AtEnd : Next → Type 0
  AtEnd (next.On s) = Unit {0}
  AtEnd (next.Over s w) = Q s w

  chosen : (b : Bool) (n m : Next) → (b ≡ true → AtEnd n) → (b ≡ false → AtEnd m) → AtEnd (if_then b n m)
  unfolding if_then
  chosen true n m f g = f refl
  chosen false n m f g = g refl

  module _ (limit : ℕ) (tolerance : Float) (s : State) (a : Assembly) (e : Raw) (k : LastWays Q limit s a e) where
    stop_ends : (w : Result Why Refusal) → passed limit s a ≡ Some w → Q s w
    unfolding passed assembled if_then
    stop_ends w q = at s.fresh refl (leb limit (iterations s)) refl a refl q
      where
        at : (f : Bool) → s.fresh ≡ f → (l : Bool) → leb limit (iterations s) ≡ l → (c : Assembly) → a ≡ c
            → if_then f (if_then l (Some (Ok why.Budget)) (assembled c)) None ≡ Some w → Q s w
        at true f true l c h q = let d : Ok why.Budget ≡ w = cc in subst (Q s) d k.spent
        at true f false l (assembly.Refused r) h q =
            let d : Err r ≡ w = cc in subst (Q s) d (k.refused r f (leb-false limit (iterations s) l) h)
        at true f false l assembly.Flat h q = let d : Ok why.Gradient ≡ w = cc in subst (Q s) d k.flat
        at true f false l assembly.Steep h q = let z : ◌≡◌ {A = ℕ} 0 1 = cc in absurd (omega arith)
        at false f l m c h q = let z : ◌≡◌ {A = ℕ} 0 1 = cc in absurd (omega arith)

    reject_ends : AtEnd (rejecting s limit)
    unfolding rejecting
    reject_ends = chosen _ _ _ (λ h. k.raised) (λ h. chosen _ _ _ (λ l. k.rejected) (λ l. tt))

    accept_ends : (new : Float) → AtEnd (accepting s tolerance new)
    unfolding accepting
    accept_ends new = chosen _ _ _ (λ h. k.lowered new) (λ h. tt)

    fail_ends : passed limit s a ≡ None → e ≡ raw.Failed → AtEnd (failing s)
    unfolding failing
    fail_ends g h = chosen _ _ _ (λ l. k.overdamped g h l) (λ l. tt)

    solve_ends : passed limit s a ≡ None → (o : Raw) → e ≡ o → AtEnd (solved s limit tolerance (heard s.cost o))
    unfolding solved heard judged if_then
    solve_ends g raw.Failed h = fail_ends g h
    solve_ends g raw.Small h = k.small
    solve_ends g (raw.Numerical r) h = reject_ends
    solve_ends g (raw.Priced new) h = at (lt new s.cost)
      where
        at : (b : Bool) → AtEnd (solved s limit tolerance (outcome.Tried (if_then b (trial.Accepted new) (trial.Rejected reason.Cost))))
        at true = accept_ends new
        at false = reject_ends

    pub last_way : (t : State) (w : Result Why Refusal) → after_turn limit tolerance s a e ≡ next.Over t w → Q t w
    unfolding after_turn then_solve
    last_way t w q = subst AtEnd q (at (passed limit s a) refl)
      where
        at : (g : Option (Result Why Refusal)) → passed limit s a ≡ g → AtEnd (then_solve g limit tolerance s e)
        at None h = solve_ends h e refl
        at (Some v) h = stop_ends v h

-- ---- what a refusal means: the top refuses by its assembly, or the solve fails and the damping raised is above 1e10

pub record TopRefuses (limit : ℕ) (s : State) (a : Assembly) (t : State) (r : Refusal) : Type 0 where
  pub due : s.fresh ≡ true
  pub within : iterations s < limit
  pub assembly : a ≡ assembly.Refused r
  pub same : t ≡ s

pub record SolveRefuses (limit : ℕ) (s : State) (a : Assembly) (e : Raw) (r : Refusal) : Type 0 where
  pub to_solve : passed limit s a ≡ None
  pub failed : e ≡ raw.Failed
  pub past : lt lambda_max (increased s.damping) ≡ true
  pub by_22 : r ≡ refusal 22 0

module _ (limit : ℕ) (tolerance : Float) (s : State) (a : Assembly) (e : Raw) where
  abbrev Means : State → Result Why Refusal → Type 0
  Means t w = (r : Refusal) → w ≡ Err r → TopRefuses limit s a t r ⊎ SolveRefuses limit s a e r

  means : LastWays Means limit s a e
  means =
      record {
        spent = λ r h. let z : ◌≡◌ {A = ℕ} 0 1 = cc in absurd (omega arith);
        flat = λ r h. let z : ◌≡◌ {A = ℕ} 0 1 = cc in absurd (omega arith);
        refused = λ q f l g r h. let d : q ≡ r = cc in inl (record { due = f; within = l; assembly = g ∙ ap assembly.Refused d; same = refl });
        overdamped = λ g f l r h. let d : refusal 22 0 ≡ r = cc in inr (record { to_solve = g; failed = f; past = l; by_22 = sym d });
        small = λ r h. let z : ◌≡◌ {A = ℕ} 0 1 = cc in absurd (omega arith);
        lowered = λ new r h. let z : ◌≡◌ {A = ℕ} 0 1 = cc in absurd (omega arith);
        raised = λ r h. let z : ◌≡◌ {A = ℕ} 0 1 = cc in absurd (omega arith);
        rejected = λ r h. let z : ◌≡◌ {A = ℕ} 0 1 = cc in absurd (omega arith);
      }

  pub turn_refuses : (t : State) (r : Refusal) → after_turn limit tolerance s a e ≡ next.Over t (Err r)
      → TopRefuses limit s a t r ⊎ SolveRefuses limit s a e r
  turn_refuses t r q = last_way Means limit tolerance s a e means t (Err r) q r refl

  -- and the other way round
  pub top_refuses : (r : Refusal) → s.fresh ≡ true → iterations s < limit → a ≡ assembly.Refused r
      → after_turn limit tolerance s a e ≡ next.Over s (Err r)
  unfolding after_turn then_solve passed assembled if_then
  top_refuses r f l h = rw (f, lt-leb limit (iterations s) l, h)

  pub solve_refuses : passed limit s a ≡ None → e ≡ raw.Failed → lt lambda_max (increased s.damping) ≡ true
      → after_turn limit tolerance s a e ≡ next.Over (after_failed s) (Err (refusal 22 0))
  unfolding after_turn then_solve solved heard failing if_then
  solve_refuses g f l = rw (g, f, l)

  -- a turn that goes on was let pass; and what is assembled at the top is then steep
  pub on_passed : (t : State) → after_turn limit tolerance s a e ≡ next.On t → passed limit s a ≡ None
  unfolding after_turn then_solve
  on_passed t q = at (passed limit s a) refl q
    where
      at : (g : Option (Result Why Refusal)) → passed limit s a ≡ g → then_solve g limit tolerance s e ≡ next.On t → passed limit s a ≡ None
      at None h q = h
      at (Some w) h q = let z : ◌≡◌ {A = ℕ} 0 1 = cc in absurd (omega arith)

pub passed_steep : (limit : ℕ) (s : State) (a : Assembly) → passed limit s a ≡ None → s.fresh ≡ true → a ≡ assembly.Steep
unfolding passed assembled if_then
passed_steep limit s a q f = at (leb limit (iterations s)) a (rw f at q)
  where
    at : (l : Bool) (c : Assembly) → if_then l (Some (Ok why.Budget)) (assembled c) ≡ None → c ≡ assembly.Steep
    at true c q = let z : ◌≡◌ {A = ℕ} 0 1 = cc in absurd (omega arith)
    at false (assembly.Refused r) q = let z : ◌≡◌ {A = ℕ} 0 1 = cc in absurd (omega arith)
    at false assembly.Flat q = let z : ◌≡◌ {A = ℕ} 0 1 = cc in absurd (omega arith)
    at false assembly.Steep q = refl

-- ---- the solves tried, from a state that was live

module _ (limit : ℕ) (first : Float) (s : State) (h : Live limit first s) (a : Assembly) (e : Raw) where
  abbrev Counted : State → Result Why Refusal → Type 0
  Counted t w = t.solves ≡ solves_tried t w

  counted : LastWays Counted limit s a e
  counted =
      record {
        spent = omega (arith, h.tried);
        flat = omega (arith, h.tried);
        refused = λ r f l g. omega (arith, h.tried);
        overdamped = λ g f l. omega (arith, h.tried, more_failed limit first s h, more_solves limit first s h);
        small = omega (arith, h.tried, more_solves limit first s h);
        lowered = λ new. omega (arith, h.tried, more_accepted limit first s h, more_solves limit first s h);
        raised = omega (arith, h.tried, more_rejected limit first s h, more_solves limit first s h);
        rejected = omega (arith, h.tried, more_rejected limit first s h, more_solves limit first s h);
      }

  pub turn_tried : (tolerance : Float) (t : State) (w : Result Why Refusal) → after_turn limit tolerance s a e ≡ next.Over t w → t.solves ≡ solves_tried t w
  turn_tried tolerance t w q = last_way Counted limit tolerance s a e counted t w q

-- ---- the last turn of a run: so many turns come to a state that goes on, and the next one ends the run

pub record Ending {X : Type 0} (m : Numerics X) (limit : ℕ) (tolerance cost damping : Float) (given : X) (t : State) (w : Result Why Refusal) : Type 0 where
  pub turns : ℕ
  pub state : State
  pub held : X
  pub before : play m limit tolerance turns (next.On (begun cost damping)) given ≡ record { next = next.On state; held = held }
  pub last : after_turn limit tolerance state (m.assemble held) (m.attempt held state.damping) ≡ next.Over t w

module _ {X : Type 0} (m : Numerics X) (limit : ℕ) (tolerance : Float) where
  abbrev turn_of : State → X → Next
  turn_of s x = after_turn limit tolerance s (m.assemble x) (m.attempt x s.damping)

  abbrev held_then : State → X → State → X
  held_then s x t = moved_on s t (m.moved x s.damping) x

  -- one turn more
  abbrev once_more : Play X → Play X
  once_more y = record { next = next_of m limit tolerance y.next y.held; held = held_of m limit tolerance y.next y.held }

  play_more : (k : ℕ) (n : Next) (x : X) → play m limit tolerance (suc k) n x ≡ once_more (play m limit tolerance k n x)
  unfolding play
  play_more zero n x = refl
  play_more (suc k) n x = play_more k (next_of m limit tolerance n x) (held_of m limit tolerance n x)

  module _ (cost damping : Float) (given : X) where
    abbrev start : Next
    start = next.On (begun cost damping)

    module _ (k : ℕ) (s : State) (x : X) (b : play m limit tolerance k start given ≡ record { next = next.On s; held = x })
        (n : Next) (q : turn_of s x ≡ n) where
      come_to : play m limit tolerance (suc k) start given ≡ record { next = n; held = held_then s x (state_of n) }
      unfolding next_of held_of
      come_to = play_more k start given ∙ ap once_more b ∙ ap (λ (v : Next). record { next = v; held = held_then s x (state_of v) }) q

    module _ (t : State) (w : Result Why Refusal) where
      search_last : (k n : ℕ) (s : State) (x : X) → play m limit tolerance n start given ≡ record { next = next.On s; held = x }
          → (play m limit tolerance k (next.On s) x).next ≡ next.Over t w → Ending m limit tolerance cost damping given t w
      unfolding play next_of held_of
      search_last zero n s x b q = let z : ◌≡◌ {A = ℕ} 0 1 = cc in absurd (omega arith)
      search_last (suc k) n s x b q =
          at (turn_of s x) refl (λ u h. search_last k (suc n) u (held_then s x u) (come_to n s x b (next.On u) h)) q
        where
          at : (v : Next) → turn_of s x ≡ v
              → ((u : State) → turn_of s x ≡ next.On u → (play m limit tolerance k (next.On u) (held_then s x u)).next ≡ next.Over t w
              → Ending m limit tolerance cost damping given t w)
              → (play m limit tolerance k v (held_then s x (state_of v))).next ≡ next.Over t w → Ending m limit tolerance cost damping given t w
          at (next.On u) h rec q = rec u h q
          at (next.Over u v) h rec q =
              let over : next.Over u v ≡ next.Over t w
              = ap (λ (y : Play X). y.next) (sym (play_over m limit tolerance k u v (held_then s x u))) ∙ q in
              record { turns = n; state = s; held = x; before = b; last = h ∙ over }

      -- a run that is over had a last turn
      pub played_ending : (played m limit tolerance cost damping given).next ≡ next.Over t w → Ending m limit tolerance cost damping given t w
      unfolding play
      played_ending q = search_last (enough limit) 0 (begun cost damping) given refl q

    -- ---- what is kept from turn to turn holds of every state that the run goes on from

    module _ (P : State → X → Type 0) (begins : P (begun cost damping) given)
        (keeps : (s : State) (x : X) → P s x → (t : State) → turn_of s x ≡ next.On t → P t (held_then s x t)) where
      abbrev Along : Next → X → Type 0
      Along (next.On s) x = P s x
      Along (next.Over s w) x = Unit {0}

      next_along : (n : Next) (x : X) → Along n x → Along (next_of m limit tolerance n x) (held_of m limit tolerance n x)
      unfolding next_of held_of
      next_along (next.Over s w) x h = tt
      next_along (next.On s) x h = at (turn_of s x) refl
        where
          at : (n : Next) → turn_of s x ≡ n → Along n (held_then s x (state_of n))
          at (next.On t) q = keeps s x h t q
          at (next.Over t w) q = tt

      play_along : (k : ℕ) (n : Next) (x : X) → Along n x → Along (play m limit tolerance k n x).next (play m limit tolerance k n x).held
      unfolding play
      play_along zero n x h = h
      play_along (suc k) n x h = play_along k (next_of m limit tolerance n x) (held_of m limit tolerance n x) (next_along n x h)

      kept_along : (k : ℕ) (s : State) (x : X) → play m limit tolerance k start given ≡ record { next = next.On s; held = x } → P s x
      kept_along k s x q = subst (λ (y : Play X). Along y.next y.held) q (play_along k start given begins)

    -- where the same system is solved again, it was let pass at the top, with what is held now
    abbrev Steady : State → X → Type 0
    Steady s x = s.fresh ≡ false → m.assemble x ≡ assembly.Steep

    steep : (s : State) (x : X) → Steady s x → passed limit s (m.assemble x) ≡ None → m.assemble x ≡ assembly.Steep
    steep s x h q = at s.fresh refl
      where
        at : (f : Bool) → s.fresh ≡ f → m.assemble x ≡ assembly.Steep
        at true f = passed_steep limit s (m.assemble x) q f
        at false f = h f

    stays_steady : (s : State) (x : X) → Steady s x → (t : State) → turn_of s x ≡ next.On t → Steady t (held_then s x t)
    stays_steady s x h t q f =
        ap (λ (y : X). m.assemble y) (turn_stays limit tolerance s (m.assemble x) (m.attempt x s.damping) t q (m.moved x s.damping) x f)
        ∙ steep s x h (on_passed limit tolerance s (m.assemble x) (m.attempt x s.damping) t q)

    -- so what goes on to a solve is steep
    pub solves_steep : (k : ℕ) (s : State) (x : X) → play m limit tolerance k start given ≡ record { next = next.On s; held = x }
        → passed limit s (m.assemble x) ≡ None → m.assemble x ≡ assembly.Steep
    solves_steep k s x q = steep s x (kept_along Steady (λ f. absurd (subst T f tt)) stays_steady k s x q)

    -- ---- for a limit and a first damping that pass the checks

    module _ (l : limit ≤ 1000) (f : T (fits binary32 damping)) (p : lt (num 0) damping ≡ true) (u : le damping lambda_max ≡ true) where
      still_going : (k : ℕ) (s : State) (x : X) → play m limit tolerance k start given ≡ record { next = next.On s; held = x }
          → Going m limit tolerance cost damping given s x
      still_going =
          kept_along (λ (s : State) (x : X). Going m limit tolerance cost damping given s x) (going_begin m limit tolerance cost damping given l f p u)
          (λ s x g t q. going_on m limit tolerance cost damping given s x g t q)

      module _ (t : State) (w : Result Why Refusal) (e : Ending m limit tolerance cost damping given t w) where
        going_last : Going m limit tolerance cost damping given e.state e.held
        going_last = still_going e.turns e.state e.held e.before

        -- a run that comes to a last turn is over by it
        pub ending_played : (played m limit tolerance cost damping given).next ≡ next.Over t w
        ending_played = ap (λ (y : Play X). y.next) (going_done m limit tolerance cost damping given e.state e.held going_last t w e.last)

        pub ending_tried : t.solves ≡ solves_tried t w
        ending_tried =
            let a = m.assemble e.held in
            let o = m.attempt e.held e.state.damping in
            turn_tried limit cost e.state going_last.live a o tolerance t w e.last

-- what has ended is over
pub over_of : (n : Next) → ended n ≡ true → (t : State) × ((w : Result Why Refusal) × (n ≡ next.Over t w))
over_of (next.On s) h = absurd (subst T (sym h) tt)
over_of (next.Over t w) h = (t, (w, refl))
