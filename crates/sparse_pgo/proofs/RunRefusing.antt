-- What it means that a run past the checks is refused, for rows 20 to 22: the run answers a refusal, of any number but 0, exactly where `RunRefuses` gives
-- it; and the run of any input whose settings pass is over after its turns, so it answers no refusal of number 0. Assumes nothing.
use Rattle.decisions.specs.declared.Why.{Why}
use Rattle.std.specs.Prelude.{Err, Ok, Result}
use mathlib.Core.Path.{◌≡◌, refl, sym, ap, subst, ◌∙◌}
use mathlib.Core.Logic.{◌⊎◌, inl, inr}
use mathlib.Core.Bool.{Bool, true, false, true≢false}
use Prim.Native.Nat.{ℕ, ◌<◌, ◌≤◌}
use native.Mathlib.Omega.{arith}
use lib.Dec.{T}
use lib.Ieee.{Float, binary32, le, fits}
use Rattle.numbers.specs.Notation.{num, if_then}
use Rattle.numbers.specs.Walks.{Ended, done, stopped}
use Rattle.numbers.specs.Refusals.{refusal}
use Rattle.numbers.specs.declared.Refusal.{Refusal}
use Rattle.numbers.specs.declared.Failure.{Failure}
use Rattle.numbers.specs.declared.Failure.TheVariants.{Numerical}
use Rattle.numbers.proofs.Walking.{each_stopped}
use Rattle.graph.specs.Graph.{links_of}
use Rattle.costs.specs.Costs.{cost_ends}
use Rattle.assembly.specs.Assembly.{assembled_ends}
use Rattle.trials.specs.Trials.{priced_as}
use Rattle.checks.specs.Input.{Input, graph_of}
use Rattle.checks.proofs.Passed.{PassedSettings}
use Rattle.decisions.specs.Damping.{lambda_max}
use Rattle.decisions.specs.Demand.{Held}
use Rattle.decisions.specs.Run.{after_failed}
use Rattle.decisions.specs.Machine.{state_of, ended}
use Rattle.decisions.specs.declared.State.{State}
use Rattle.decisions.specs.declared.Assembly.TheVariants as assembly
use Rattle.decisions.specs.declared.Raw.TheVariants as raw
use Rattle.decisions.specs.declared.Next.{Next}
use Rattle.decisions.specs.declared.Next.TheVariants as next
use Rattle.decisions.proofs.Machines.{played_held, played_ends}
use Rattle.decisions.proofs.Ending.{TopRefuses, SolveRefuses, turn_refuses, top_refuses, solve_refuses}
use Rattle.decisions.proofs.Ending.{Ending, played_ending, solves_steep, ending_played, ending_tried, over_of}
use Rattle.sparse_pgo.specs.Parts.{Parts, Found, step, no_step, assembly_of, trial_as, step_as, attempt_as, numerics, answer_of, whole_from, whole}
use Rattle.sparse_pgo.specs.Numerics.{parts_on}
use Rattle.sparse_pgo.specs.Optimize.{ran}
use Rattle.sparse_pgo.specs.Refusing.{run_parts, last_of, GoesOn, NoFirstCost, NoAssembly, RunRefuses, row_20, row_21, row_22, EndedRun}
use Rattle.sparse_pgo.proofs.Looping.{not_above}

-- ---- of any parts: what a turn hears of the assembly and of the solve

module _ {X S D : Type 0} (p : Parts X S D) (x : X) where
  -- the assembly refuses exactly where it was stopped, by 21
  record Stopped (r : Refusal) : Type 0 where
    edge : ℕ
    why : Failure
    left : S
    assembled : p.assembled x ≡ stopped edge why left
    by_21 : refusal 21 edge ≡ r

  flat_or_steep : (b : Bool) (r : Refusal) → if_then b assembly.Flat assembly.Steep ≡ assembly.Refused r → ⊥
  unfolding if_then
  flat_or_steep true r q = let z : ◌≡◌ {A = ℕ} 0 1 = cc in omega arith
  flat_or_steep false r q = let z : ◌≡◌ {A = ℕ} 0 1 = cc in omega arith

  refused_stopped : (r : Refusal) → (numerics p).assemble x ≡ assembly.Refused r → Stopped r
  unfolding numerics
  refused_stopped r = go (p.assembled x) refl
    where
      go : (a : Ended S) → p.assembled x ≡ a → assembly_of p a ≡ assembly.Refused r → Stopped r
      go (done s) h q = absurd (flat_or_steep (p.flat s) r q)
      go (stopped k Numerical s) h q = record { edge = k; why = Numerical; left = s; assembled = h; by_21 = cc }

  stopped_refused : (k : ℕ) (why : Failure) (s : S) → p.assembled x ≡ stopped k why s → (numerics p).assemble x ≡ assembly.Refused (refusal 21 k)
  unfolding numerics
  stopped_refused k Numerical s h = ap (assembly_of p) h

  -- a steep one was done, and the solve of its system fails exactly where the attempt does
  steep_done : (numerics p).assemble x ≡ assembly.Steep → (s : S) × (p.assembled x ≡ done s)
  unfolding numerics
  steep_done = go (p.assembled x) refl
    where
      go : (a : Ended S) → p.assembled x ≡ a → assembly_of p a ≡ assembly.Steep → (s : S) × (p.assembled x ≡ done s)
      go (done s) h q = (s, h)
      go (stopped k why s) h q = let z : ◌≡◌ {A = ℕ} 0 1 = cc in absurd (omega arith)

  not_priced : (e : Ended Float) → priced_as e ≡ raw.Failed → ⊥
  not_priced (done c) q = let z : ◌≡◌ {A = ℕ} 0 1 = cc in omega arith
  not_priced (stopped k why c) q = let z : ◌≡◌ {A = ℕ} 0 1 = cc in omega arith

  not_tried : (y : Bool × X) → trial_as p y ≡ raw.Failed → ⊥
  not_tried (true, y) q = not_priced (p.cost y) q
  not_tried (false, y) q = let z : ◌≡◌ {A = ℕ} 0 1 = cc in omega arith

  not_stepped : (b : Bool) (y : Bool × X) → if_then b raw.Small (trial_as p y) ≡ raw.Failed → ⊥
  unfolding if_then
  not_stepped true y q = let z : ◌≡◌ {A = ℕ} 0 1 = cc in omega arith
  not_stepped false y q = not_tried y q

  no_step_lem : (f : Found D) → step_as p x f ≡ raw.Failed → f ≡ no_step
  no_step_lem no_step q = refl
  no_step_lem (step d) q = absurd (not_stepped (p.small d) (p.trial x d) q)

  module _ (damping : Float) (s : S) (h : p.assembled x ≡ done s) where
    failed_unsolved : (numerics p).attempt x damping ≡ raw.Failed → p.solve s damping ≡ no_step
    unfolding numerics
    failed_unsolved q = no_step_lem (p.solve s damping) (ap (attempt_as p x damping) (sym h) ∙ q)

    unsolved_failed : p.solve s damping ≡ no_step → (numerics p).attempt x damping ≡ raw.Failed
    unfolding numerics
    unsolved_failed q = ap (attempt_as p x damping) h ∙ ap (step_as p x) q

-- ---- of an input's run

-- a machine that is not over would be answered by number 0
abbrev Told : Next → Refusal → Type 0
Told n r = (s : State) → n ≡ next.On s → refusal 0 0 ≡ r → ⊥

answer_refused : (first : Float) (n : Next) (r : Refusal) → Told n r → answer_of first n ≡ Err r
    → (s : State) × (n ≡ next.Over s (Err r))
answer_refused first (next.On s) r t q = let d : refusal 0 0 ≡ r = cc in absurd (t s refl d)
answer_refused first (next.Over s (Ok w)) r t q = let z : ◌≡◌ {A = ℕ} 0 1 = cc in absurd (omega arith)
answer_refused first (next.Over s (Err q)) r t h = let d : q ≡ r = cc in (s, ap (λ (q : Refusal). next.Over s (Err q)) d)

over_told : (n : Next) (r : Refusal) → ended n ≡ true → Told n r
over_told n r e s h d = let z : false ≡ true = ap ended (sym h) ∙ e in absurd (true≢false (sym z))

numbered_told : (n : Next) (r : Refusal) → 0 < r.number → Told n r
numbered_told n r l s h d = let z : 0 ≡ r.number = ap (λ (r : Refusal). r.number) d in omega arith

module _ (i : Input) where
  -- how the run of this input from a first cost ended
  abbrev RunEnds : Float → State → Result Why Refusal → Type 0
  RunEnds first t w =
      Ending (numerics (run_parts i)) i.settings.limit i.settings.cost_tolerance first i.settings.damping i.poses t w

  last_turn : (first : Float) (t : State) (w : Result Why Refusal) → last_of i first ≡ next.Over t w → RunEnds first t w
  last_turn first t w =
      played_ending (numerics (run_parts i)) i.settings.limit i.settings.cost_tolerance first i.settings.damping i.poses t w

  module _ (first : Float) (had : (run_parts i).cost i.poses ≡ done first) where
    ran_answer : (ran i).answer ≡ answer_of first (last_of i first)
    unfolding ran whole
    ran_answer = ap (λ (e : Ended Float). (whole_from (run_parts i) i.settings i.poses e).answer) had

    module _ (t : State) (r : Refusal) (e : RunEnds first t (Err r)) where
      on : GoesOn i e.state e.held
      on = record { first = first; had = had; turns = e.turns; come_to = e.before }

      by_top : TopRefuses i.settings.limit e.state ((numerics (run_parts i)).assemble e.held) t r → RunRefuses i r
      by_top h =
          let a = refused_stopped (run_parts i) e.held r h.assembly in
          subst (RunRefuses i) a.by_21
          (row_21 (record {
            state = e.state;
            held = e.held;
            on = on;
            due = h.due;
            within = h.within;
            why = a.why;
            left = a.left;
            assembly = a.assembled;
          }))

      by_solve : SolveRefuses i.settings.limit e.state ((numerics (run_parts i)).assemble e.held)
          ((numerics (run_parts i)).attempt e.held e.state.damping) r → RunRefuses i r
      by_solve h =
          let steep = solves_steep (numerics (run_parts i)) i.settings.limit i.settings.cost_tolerance first i.settings.damping i.poses
          e.turns e.state e.held e.before h.to_solve in
          let (system, d) = steep_done (run_parts i) e.held steep in
          subst (RunRefuses i) (sym h.by_22)
          (row_22 (record {
            state = e.state;
            held = e.held;
            on = on;
            to_solve = h.to_solve;
            system = system;
            assembly = d;
            failed = failed_unsolved (run_parts i) e.held e.state.damping system d h.failed;
            past = h.past;
          }))

      last_refuses : RunRefuses i r
      last_refuses = go (turn_refuses i.settings.limit i.settings.cost_tolerance e.state _ _ t r e.last)
        where
          go : TopRefuses i.settings.limit e.state ((numerics (run_parts i)).assemble e.held) t r
              ⊎ SolveRefuses i.settings.limit e.state ((numerics (run_parts i)).assemble e.held)
              ((numerics (run_parts i)).attempt e.held e.state.damping) r
              → RunRefuses i r
          go (inl h) = by_top h
          go (inr h) = by_solve h

    later_refused : (r : Refusal) → Told (last_of i first) r → (ran i).answer ≡ Err r → RunRefuses i r
    later_refused r told q =
        let (t, over) = answer_refused first (last_of i first) r told (sym ran_answer ∙ q) in
        last_refuses t r (last_turn first t (Err r) over)

  unpriced : (k : ℕ) (why : Failure) (c : Float) → (run_parts i).cost i.poses ≡ stopped k why c → (ran i).answer ≡ Err (refusal 20 k)
  unfolding ran whole
  unpriced k Numerical c h = ap (λ (e : Ended Float). (whole_from (run_parts i) i.settings i.poses e).answer) h

  told_refused : (r : Refusal) → ((first : Float) → Told (last_of i first) r) → (ran i).answer ≡ Err r → RunRefuses i r
  told_refused r told q = go ((run_parts i).cost i.poses) refl
    where
      go : (e : Ended Float) → (run_parts i).cost i.poses ≡ e → RunRefuses i r
      go (done c) h = later_refused c h r (told c) q
      go (stopped k why c) h =
          let said : Err (refusal 20 k) ≡ Err r = sym (unpriced k why c h) ∙ q in
          let d : refusal 20 k ≡ r = cc in
          subst (RunRefuses i) d (row_20 (record { why = why; left = c; cost = h }))

  -- a run that is refused, by any number but 0, is refused by its row
  pub numbered_refused : (r : Refusal) → 0 < r.number → (ran i).answer ≡ Err r → RunRefuses i r
  numbered_refused r l q = told_refused r (λ first. numbered_told (last_of i first) r l) q

  -- ---- the place of 20 and 21 is an edge

  pub cost_edge : (k : ℕ) → NoFirstCost i k → k < (graph_of i).edges
  unfolding parts_on cost_ends links_of
  cost_edge k n = each_stopped _ (graph_of i).edges (num 0) k n.why n.left n.cost

  pub assembly_edge : (k : ℕ) → NoAssembly i k → k < (graph_of i).edges
  unfolding parts_on assembled_ends links_of
  assembly_edge k n = each_stopped _ (graph_of i).edges _ k n.why n.left n.assembly

  pub run_number : (r : Refusal) → RunRefuses i r → r.number ≤ 22
  run_number r (row_20 n) = omega arith
  run_number r (row_21 n) = omega arith
  run_number r (row_22 n) = omega arith

  -- ---- for settings that pass, and a first damping that is an f32

  module _ (ok : PassedSettings i.settings) (f : T (fits binary32 i.settings.damping)) where
    at_most : le i.settings.damping lambda_max ≡ true
    at_most = not_above i.settings.damping ok.damping_above ok.damping_most

    is_over : (first : Float) → ended (last_of i first) ≡ true
    is_over first =
        played_ends (numerics (run_parts i)) i.settings.limit i.settings.cost_tolerance first i.settings.damping i.poses
        ok.most_limit f ok.damping_above at_most

    -- a run that is refused is refused by its row
    pub run_refused : (r : Refusal) → (ran i).answer ≡ Err r → RunRefuses i r
    run_refused r q = told_refused r (λ first. over_told (last_of i first) r (is_over first)) q

    over_refused : (first : Float) → (run_parts i).cost i.poses ≡ done first → (t : State) (r : Refusal) → RunEnds first t (Err r)
        → (ran i).answer ≡ Err r
    over_refused first had t r e =
        let over : last_of i first ≡ next.Over t (Err r)
        = ending_played (numerics (run_parts i)) i.settings.limit i.settings.cost_tolerance first i.settings.damping i.poses
        ok.most_limit f ok.damping_above at_most t (Err r) e in
        ran_answer first had ∙ ap (answer_of first) over

    -- its row gives the refusal
    pub refuses_run : (r : Refusal) → RunRefuses i r → (ran i).answer ≡ Err r
    refuses_run r (row_20 {k} n) = unpriced k n.why n.left n.cost
    refuses_run r (row_21 {k} n) =
        over_refused n.on.first n.on.had n.state (refusal 21 k)
        (record {
          turns = n.on.turns;
          state = n.state;
          held = n.held;
          before = n.on.come_to;
          last = top_refuses i.settings.limit i.settings.cost_tolerance n.state _ _ (refusal 21 k) n.due n.within
              (stopped_refused (run_parts i) n.held k n.why n.left n.assembly);
        })
    refuses_run r (row_22 n) =
        over_refused n.on.first n.on.had (after_failed n.state) (refusal 22 0)
        (record {
          turns = n.on.turns;
          state = n.state;
          held = n.held;
          before = n.on.come_to;
          last = solve_refuses i.settings.limit i.settings.cost_tolerance n.state _ _ n.to_solve
              (unsolved_failed (run_parts i) n.held n.state.damping n.system n.assembly n.failed) n.past;
        })

    -- from a first cost the run is over after its turns
    pub run_ended : (first : Float) → (run_parts i).cost i.poses ≡ done first → EndedRun i first (ran i).answer
    run_ended first had =
        let (t, (w, over)) = over_of (last_of i first) (is_over first) in
        record {
          state = t;
          how = w;
          last = over;
          said = ran_answer first had ∙ ap (answer_of first) over;
          held = subst (Held i.settings.limit first) (ap state_of over)
              (played_held (numerics (run_parts i)) i.settings.limit i.settings.cost_tolerance first i.settings.damping i.poses
              ok.most_limit f ok.damping_above at_most);
          solves = ending_tried (numerics (run_parts i)) i.settings.limit i.settings.cost_tolerance first i.settings.damping i.poses
              ok.most_limit f ok.damping_above at_most t w (last_turn first t w over);
        }
