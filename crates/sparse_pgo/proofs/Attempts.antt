-- A solve of the system that stands in the work, and the trial of its step. Assumes nothing.
use Rattle.solve.specs.declared.SolveError.TheVariants as solve_error
use Rattle.solve.specs.declared.SolveError.{SolveError}
use Rattle.std.specs.Prelude.{Err, Ok, Result, Some, ⊤}
use mathlib.Core.Path.{◌≡◌, refl, sym, ap, ◌∙◌}
use mathlib.Core.Bool.{Bool, true, false}
use mathlib.Core.List.{List}
use Prim.Native.Nat.{ℕ, ◌+◌, ◌-◌, ◌*◌, ◌<◌, ◌≤◌}
use native.Mathlib.Omega.{arith}
use lib.ListN.{length, get_or}
use lib.Ieee.{Float, nan, lt}
use Rattle.numbers.specs.Notation.{if_then}
use Rattle.numbers.proofs.Choices.{left}
use Rattle.numbers.proofs.Parted.{part_from, part_reads, length_part}
use Rattle.graph.specs.Graph.{Links}
use Rattle.graph.specs.Lent.{pose_at}
use Rattle.graph.specs.declared.Edge.{Edge}
use Rattle.costs.specs.Costs.{cost_ends}
use Rattle.solve.specs.Rule.{solvable, nothing}
use Rattle.solve.specs.Work as solves
use Rattle.profile.specs.Layout.{need, hessian_of}
use Rattle.solve.specs.Work.{gradient_of, work_after, step_in, solved_as}
use Rattle.solve.proofs.Places.{length_after}
use Rattle.solve.proofs.Again.{same_answer, same_leaves, answer_is, read_step}
use Rattle.decisions.specs.Run.{heard}
use Rattle.decisions.specs.declared.State.{State}
use Rattle.decisions.specs.declared.Raw.TheVariants as raw
use Rattle.decisions.specs.declared.Trial.TheVariants as trial
use Rattle.decisions.specs.declared.Outcome.{Outcome}
use Rattle.decisions.specs.declared.Outcome.TheVariants as outcome
use Rattle.trials.specs.Trials.{norm_of, step_tolerance, moves, moved_numbers, tried_as, trial_in, try_answers, try_leaves}
use Rattle.trials.proofs.Steps.{norm_same, moves_same, moved_same}
use Rattle.trials.proofs.Halves.{tried_halves, trial_front, accepted_front}
use Rattle.sparse_pgo.specs.declared.Setup.{Setup}
use Rattle.sparse_pgo.specs.Parts.{numerics}
use Rattle.sparse_pgo.specs.Numerics.{parts_on}
use Rattle.sparse_pgo.specs.forms.Turns.{parts_in, held_in, Lent, Holds, accepts, Attempted}

-- what an answer says of the rule
module _ (w : List Float) (n : ℕ) (d : Float) (long : need n ≤ length w) where
  abbrev serves : Bool
  serves = solvable (hessian_of w n) (gradient_of w n) n d

  solved_step : solved_as w n d ≡ Ok tt → serves ≡ true
  unfolding if_then
  solved_step e = go serves (sym (answer_is w n d long) ∙ e)
    where
      go : (b : Bool) → ◌≡◌ {A = Result ⊤ SolveError} (if_then b (Ok tt) (Err solve_error.Failed)) (Ok tt) → b ≡ true
      go true h = refl
      go false h = let z : ◌≡◌ {A = ℕ} 0 1 = cc in absurd (omega arith)

  solved_none : (solved_as w n d ≡ Ok tt → ⊥) → serves ≡ false
  unfolding if_then
  solved_none e = go serves (λ q. e (answer_is w n d long ∙ q))
    where
      go : (b : Bool) → (◌≡◌ {A = Result ⊤ SolveError} (if_then b (Ok tt) (Err solve_error.Failed)) (Ok tt) → ⊥) → b ≡ false
      go true h = absurd (h refl)
      go false h = refl

  none_failed : (solved_as w n d ≡ Ok tt → ⊥) → solved_as w n d ≡ Err solve_error.Failed
  none_failed e = answer_is w n d long ∙ sym (left (Ok tt) (solved_none e) refl)

module _ {setup : Setup} {free : ℕ} {l : Links Edge} (st : State) {w32 w32' before : List Float} {answer : Result ⊤ SolveError}
    (lent : Lent setup free w32 before) (h : Holds setup l (held_in setup before) w32)
    (s : (answer ≡ solved_as w32 setup.n st.damping) × (w32' ≡ solves.leaves w32 setup.n st.damping (solved_as w32 setup.n st.damping))) where
  abbrev damping : Float
  damping = st.damping

  abbrev n : ℕ
  n = setup.n

  -- the step of the system
  abbrev δ : ℕ → Float
  δ = step_in h.system n damping

  abbrev is_solvable : Bool
  is_solvable = solvable (hessian_of h.system n) (gradient_of h.system n) n damping

  long : need n ≤ length h.system
  long =
      let a : length w32 ≡ need n = lent.single in
      let b : length w32 ≡ length h.system = ap length h.work ∙ length_after h.system n h.steps in
      omega arith

  -- the answer and what is left are those of the system as it was first solved
  said : answer ≡ solved_as h.system n damping
  said = s.0 ∙ ap (λ (w : List Float). solved_as w n damping) h.work ∙ same_answer h.system n h.steps long damping

  leaving : w32' ≡ solves.leaves h.system n damping (solved_as h.system n damping)
  leaving = s.1 ∙ ap (λ (w : List Float). solves.leaves w n damping (solved_as w n damping)) h.work ∙ same_leaves h.system n h.steps long damping

  still : (x : ℕ → Float) → w32' ≡ work_after h.system n x → Holds setup l (held_in setup before) w32'
  still x e = record { system = h.system; steps = x; is_system = h.is_system; work = e }

  -- no step
  module _ (none : answer ≡ Ok tt → ⊥) where
    no_step_lem : solved_as h.system n damping ≡ Ok tt → ⊥
    no_step_lem q = none (said ∙ q)

    unsolvable : is_solvable ≡ false
    unsolvable = solved_none h.system n damping long no_step_lem

    left_so : w32' ≡ work_after h.system n nothing
    left_so = leaving ∙ ap (solves.leaves h.system n damping) (none_failed h.system n damping long no_step_lem)

    pub attempt_failed : length w32' ≡ need setup.n → Attempted setup l st before outcome.Failed w32' before
    unfolding parts_on numerics heard if_then
    attempt_failed k = record { answer = rw (h.is_system, unsolvable); held = refl; holds = still nothing left_so; long = k }

  -- a step, and its trial
  module _ (some : answer ≡ Ok tt) (sized : length w32' ≡ need setup.n) (below : (p b : ℕ) → l.slot p ≡ Some b → b < free) where
    can : is_solvable ≡ true
    can = solved_step h.system n damping long (sym said ∙ some)

    left_with : w32' ≡ work_after h.system n δ
    left_with = leaving ∙ ap (solves.leaves h.system n damping) (sym said ∙ some)

    -- the step as it is lent
    abbrev lent_step : List Float
    lent_step = part_from (setup.n * setup.n + setup.n + setup.n) w32'

    abbrev δ' : ℕ → Float
    δ' i = get_or lent_step i nan

    reads : (i : ℕ) → i < n → δ' i ≡ δ i
    reads i q =
        ap (λ (f : ℕ → Float). f i) (part_reads (n * n + n + n) w32' nan)
        ∙ ap (λ (w : List Float). get_or w (n * n + n + n + i) nan) left_with
        ∙ read_step h.system n δ long i q

    norm_is : norm_of δ' (length lent_step) ≡ norm_of δ n
    norm_is =
        let o : length w32' - (n * n + n + n) ≡ n = omega (arith, sized) in
        ap (norm_of δ') (length_part (n * n + n + n) w32' ∙ o) ∙ norm_same δ' δ n reads

    moves_are : moves setup.manifold l.slot setup.poses (held_in setup before) δ' ≡ moves setup.manifold l.slot setup.poses (held_in setup before) δ
    moves_are = moves_same setup.manifold l.slot free n δ' δ lent.sized.unknowns below reads setup.poses (held_in setup before)

    moved_are : moved_numbers setup.manifold l.slot (held_in setup before) δ' ≡ moved_numbers setup.manifold l.slot (held_in setup before) δ
    moved_are = moved_same setup.manifold l.slot free n δ' δ lent.sized.unknowns below reads (held_in setup before)

    -- what is tried is what the run's numerics say
    raw_is : (numerics (parts_in setup l)).attempt (held_in setup before) damping
        ≡ if_then (lt (norm_of δ n) step_tolerance) raw.Small
        (tried_as (moves setup.manifold l.slot setup.poses (held_in setup before) δ) (cost_ends l (pose_at (moved_numbers setup.manifold l.slot (held_in setup before) δ))))
    unfolding parts_on numerics if_then
    raw_is = rw (h.is_system, can)

    tried_is : try_answers setup.manifold l st.cost lent_step before ≡ heard st.cost ((numerics (parts_in setup l)).attempt (held_in setup before) damping)
    tried_is =
        tried_halves setup.manifold l.slot δ' setup.poses before lent.double l st.cost lent_step refl refl
        ∙ ap (heard st.cost) (rw (raw_is, norm_is, moves_are, moved_are))

    moved_is : (numerics (parts_in setup l)).moved (held_in setup before) damping ≡ moved_numbers setup.manifold l.slot (held_in setup before) δ'
    unfolding parts_on numerics if_then
    moved_is = rw (h.is_system, can) (sym moved_are)

    -- the poses that are held then
    held_by : (o : Outcome) → held_in setup (try_leaves o before (trial_in setup.manifold l.slot δ' before))
        ≡ if_then (accepts o) (moved_numbers setup.manifold l.slot (held_in setup before) δ') (held_in setup before)
    unfolding if_then
    held_by outcome.Failed = refl
    held_by outcome.Small = refl
    held_by (outcome.Tried (trial.Accepted c)) = accepted_front setup.manifold l.slot δ' setup.poses before lent.double
    held_by (outcome.Tried (trial.Rejected w)) = trial_front setup.manifold l.slot δ' setup.poses before lent.double

    pub attempt_tried : {o : Outcome} {after : List Float}
        → (o ≡ try_answers setup.manifold l st.cost (part_from (setup.n * setup.n + setup.n + setup.n) w32') before)
        × (after ≡ try_leaves o before (trial_in setup.manifold l.slot (λ i. get_or (part_from (setup.n * setup.n + setup.n + setup.n) w32') i nan) before))
        → Attempted setup l st before o w32' after
    attempt_tried {o} {after} v =
        record {
          answer = v.0 ∙ tried_is;
          held = ap (held_in setup) v.1 ∙ held_by o ∙ ap (λ (z : List Float). if_then (accepts o) z (held_in setup before)) (sym moved_is);
          holds = still δ left_with;
          long = sized;
        }
