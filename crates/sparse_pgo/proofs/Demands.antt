-- Demands 1 and 3 of the public promise, for every input; and that a promise that is an equation leaves one answer. Assumes nothing.
use Rattle.std.specs.Prelude.{Err, Ok, Result}
use mathlib.Core.Path.{◌≡◌, refl, sym, ap, ◌∙◌}
use mathlib.Core.Bool.{Bool, true, false}
use mathlib.Core.List.{List, []}
use Prim.Native.Nat.{ℕ, ◌+◌, ◌*◌, ◌<◌, ◌≤◌}
use native.Mathlib.Omega.{arith}
use lib.ListN.{drop}
use lib.Dec.{T}
use lib.Ieee.{Float, binary32, lt, fits}
use Rattle.numbers.specs.Walks.{Ended, done, stopped}
use Rattle.numbers.specs.Notation.{if_then}
use Rattle.numbers.specs.Refusals.{refusal, ask, row, verdict}
use Rattle.numbers.proofs.Speaking.{among_rows, row_spoke}
use Rattle.numbers.specs.declared.Refusal.{Refusal}
use Rattle.numbers.specs.declared.Failure.TheVariants.{Numerical}
use Rattle.graph.specs.Graph.{free_count}
use Rattle.graph.specs.Lent.{dof_of}
use Rattle.checks.specs.Input.{Input, graph_of}
use Rattle.checks.specs.Table.{rows, counts_of, checks}
use Rattle.rows.specs.Tests.{bad_gravity}
use Rattle.checks.specs.declared.Counts.{Counts}
use Rattle.rows.specs.declared.Settings.{Settings}
use Rattle.checks.proofs.Answers.{settle_turned}
use Rattle.checks.proofs.Passed.{PassedSettings, fit}
use Rattle.checks.proofs.Row26.{Adrift, refused_26}
use Rattle.profile.specs.Layout.{need}
use Rattle.decisions.specs.Demand.{Held}
use Rattle.decisions.specs.Machine.{Play, played, state_of}
use Rattle.decisions.specs.declared.Next.{Next}
use Rattle.decisions.specs.declared.Next.TheVariants as next
use Rattle.decisions.specs.declared.State.{State}
use Rattle.decisions.specs.declared.Assembly.TheVariants as assembly
use Rattle.decisions.proofs.Machines.{played_held, played_same}
use Rattle.decisions.proofs.Refusing.{Assembles, played_refuses}
use Rattle.sparse_pgo.specs.declared.Joined.{Joined}
use Rattle.sparse_pgo.specs.Parts.{Parts, assembly_of, numerics, joined_of, answer_of, whole_from, whole}
use Rattle.slices.specs.Slices.{zeroed}
use Rattle.sparse_pgo.specs.Optimize.{After, after_checks, given, ran, optimized}
use Rattle.sparse_pgo.specs.Refusing.{run_parts}
use Rattle.sparse_pgo.proofs.Looping.{not_above}

-- ---- any two answers that meet a promise which is an equation agree

pub agree : {A : Type 0} {promised : A} (x y : A) → x ≡ promised → y ≡ promised → x ≡ y
agree x y p q = p ∙ sym q

-- ---- demand 3, of a run that was joined: what it says of its counts and costs, and of the poses that it came to

pub record Kept {X : Type 0} (limit : ℕ) (given : X) (j : Joined) (held : X) : Type 0 where
  pub trials : j.iterations ≡ j.accepted + j.rejected
  pub limited : j.iterations ≤ limit
  pub raises : j.rejected + j.failed ≤ j.accepted + 55
  pub lower : 0 < j.accepted → lt j.last_cost j.first_cost ≡ true
  pub same_cost : j.accepted ≡ 0 → j.last_cost ≡ j.first_cost
  pub same_poses : j.accepted ≡ 0 → held ≡ given

module _ {X S D : Type 0} (p : Parts X S D) (set : Settings) (ok : PassedSettings set) (f : T (fits binary32 set.damping)) (x : X) where
  kept_next : (c : Float) (y : Play X) (j : Joined) → Held set.limit c (state_of y.next) → ((state_of y.next).accepted ≡ 0 → y.held ≡ x) → answer_of c y.next ≡ Ok j
      → Kept set.limit x j y.held
  kept_next c y j h s = go y.next h s
    where
      go : (n : Next) → Held set.limit c (state_of n) → ((state_of n).accepted ≡ 0 → y.held ≡ x) → answer_of c n ≡ Ok j → Kept set.limit x j y.held
      go (next.On s) h same q = let z : ◌≡◌ {A = ℕ} 0 1 = cc in absurd (omega arith)
      go (next.Over s (Err r)) h same q = let z : ◌≡◌ {A = ℕ} 0 1 = cc in absurd (omega arith)
      go (next.Over s (Ok w)) h same q =
          let e : joined_of c s w ≡ j = cc in
          rw (← e) (record { trials = refl; limited = h.trials; raises = h.raises; lower = h.lower; same_cost = h.kept; same_poses = same })

  whole_held : (c : Float) → Held set.limit c (state_of (played (numerics p) set.limit set.cost_tolerance c set.damping x).next)
  whole_held c =
      played_held (numerics p) set.limit set.cost_tolerance c set.damping x ok.most_limit f ok.damping_above (not_above set.damping ok.damping_above ok.damping_most)

  kept_whole : (j : Joined) → (whole p set x).answer ≡ Ok j → Kept set.limit x j (whole p set x).held
  unfolding whole
  kept_whole j = go (p.cost x)
    where
      go : (e : Ended Float) → (whole_from p set x e).answer ≡ Ok j → Kept set.limit x j (whole_from p set x e).held
      go (stopped k why c) q = let z : ◌≡◌ {A = ℕ} 0 1 = cc in absurd (omega arith)
      go (done c) q =
          kept_next c (played (numerics p) set.limit set.cost_tolerance c set.damping x) j
          (whole_held c)
          (played_same (numerics p) set.limit set.cost_tolerance c set.damping x)
          q

-- ---- a run that began is refused by no number above 22

abbrev NotBy : ℕ → Refusal → Type 0
NotBy n r = r.number ≡ n → ⊥

same_number : (n : ℕ) (q r : Refusal) → q ≡ r → NotBy n q → NotBy n r
same_number n q r e f h = f (ap (λ (r : Refusal). r.number) e ∙ h)

module _ {X S D : Type 0} (p : Parts X S D) (n : ℕ) (above : 22 < n) where
  assembly_other : (x : X) → Assembles (NotBy n) ((numerics p).assemble x)
  unfolding numerics if_then
  assembly_other x = go (p.assembled x)
    where
      flat : (b : Bool) (r : Refusal) → if_then b assembly.Flat assembly.Steep ≡ assembly.Refused r → NotBy n r
      flat true r e h = let z : ◌≡◌ {A = ℕ} 0 1 = cc in omega arith
      flat false r e h = let z : ◌≡◌ {A = ℕ} 0 1 = cc in omega arith

      go : (a : Ended S) → Assembles (NotBy n) (assembly_of p a)
      go (done s) r e = flat (p.flat s) r e
      go (stopped k Numerical s) r e = let d : refusal 21 k ≡ r = cc in same_number n _ r d (λ z. omega arith)

  ended_other : (c : Float) (x : Next) (r : Refusal) → ((s : State) (q : Refusal) → x ≡ next.Over s (Err q) → NotBy n q)
      → answer_of c x ≡ Err r → NotBy n r
  ended_other c (next.On s) r f e = let d : refusal 0 0 ≡ r = cc in same_number n _ r d (λ z. omega arith)
  ended_other c (next.Over s (Ok w)) r f e = let z : ◌≡◌ {A = ℕ} 0 1 = cc in absurd (omega arith)
  ended_other c (next.Over s (Err q)) r f e = let d : q ≡ r = cc in same_number n q r d (f s q refl)

  whole_other : (set : Settings) (x : X) (r : Refusal) → (whole p set x).answer ≡ Err r → NotBy n r
  unfolding whole
  whole_other set x r = go (p.cost x)
    where
      go : (e : Ended Float) → (whole_from p set x e).answer ≡ Err r → NotBy n r
      go (stopped k Numerical c) e = let d : refusal 20 k ≡ r = cc in same_number n _ r d (λ z. omega arith)
      go (done c) e =
          ended_other c _ r
          (played_refuses (NotBy n) (λ z. omega arith) set.limit set.cost_tolerance (numerics p) assembly_other c set.damping x) e

-- ---- of the public promise

-- what the machine comes to with an input's parts from a first cost
abbrev pub last_of : Input → Float → Next
last_of i first = (played (numerics (run_parts i)) i.settings.limit i.settings.cost_tolerance first i.settings.damping i.poses).next

module _ (i : Input) (work32 work64 out : List Float) where
  -- demand 1, rows 1 to 19 and 26: that refusal, and every lent number as it was
  pub demand_one_before : (r : Refusal) → (checks i).answer ≡ Err r → optimized i work32 work64 out ≡ record { answer = Err r; work32 = work32; work64 = work64; out = out }
  unfolding optimized
  demand_one_before r e = rw e

  -- row 26, of the run: given exactly where the paths say so, and every lent number as it was
  pub demand_one_adrift : (x : ℕ) → ((optimized i work32 work64 out).answer ≡ Err (refusal 26 x) → Adrift i x)
      × (Adrift i x → optimized i work32 work64 out ≡ record { answer = Err (refusal 26 x); work32 = work32; work64 = work64; out = out })
  unfolding optimized ran
  demand_one_adrift x = (λ e. go (checks i).answer refl e, λ a. demand_one_before (refusal 26 x) ((refused_26 i x).1 a))
    where
      go : (v : Result Counts Refusal) → (checks i).answer ≡ v → (after_checks i work32 work64 out v).answer ≡ Err (refusal 26 x) → Adrift i x
      go (Err r) h e = let d : r ≡ refusal 26 x = cc in (refused_26 i x).0 (h ∙ ap Err d)
      go (Ok c) h e = absurd (whole_other (run_parts i) 26 (omega arith) i.settings i.poses (refusal 26 x) e refl)

  -- no number above 22 that stands not in the table
  pub never_refused : (r : Refusal) → 22 < r.number → among_rows r.number (drop 1 (rows i)) ≡ false
      → (optimized i work32 work64 out).answer ≡ Err r → ⊥
  unfolding optimized ran checks
  never_refused r above other e = go (checks i).answer refl e
    where
      first : (b : Bool) → ask b 1 0 ≡ Err r → ⊥
      first true h = let d : refusal 1 0 ≡ r = cc in let one : 1 ≡ r.number = ap (λ (q : Refusal). q.number) d in omega arith
      first false h = let z : ◌≡◌ {A = ℕ} 0 1 = cc in omega arith

      go : (v : Result Counts Refusal) → (checks i).answer ≡ v → (after_checks i work32 work64 out v).answer ≡ Err r → ⊥
      go (Err q) h d =
          let same : q ≡ r = cc in
          let said : verdict (rows i) ≡ Err r = settle_turned _ (counts_of i) _ (h ∙ ap Err same) in
          first (bad_gravity i.manifold) (row_spoke [] (row 1 (bad_gravity i.manifold)) (drop 1 (rows i)) r refl other said).1
      go (Ok c) h d = whole_other (run_parts i) r.number above i.settings i.poses r d refl

  module _ (c : Counts) (e : (checks i).answer ≡ Ok c) where
    began : optimized i work32 work64 out ≡ after_checks i work32 work64 out (Ok c)
    unfolding optimized
    began = ap (after_checks i work32 work64 out) e

    pub answered : {a : Result Joined Refusal} → (optimized i work32 work64 out).answer ≡ a → (ran i).answer ≡ a
    answered h = ap (λ (y : After). y.answer) (sym began) ∙ h

    pub come_out : {a : Result Joined Refusal} → (optimized i work32 work64 out).answer ≡ a → (optimized i work32 work64 out).out ≡ given out (ran i) a
    come_out h = ap (λ (y : After). y.out) began ∙ ap (given out (ran i)) (answered h)

    -- rows 20 to 22: the output is as found
    pub demand_one_after : (r : Refusal) → (optimized i work32 work64 out).answer ≡ Err r → (optimized i work32 work64 out).out ≡ out
    demand_one_after r h = come_out h

    -- after a run that began, the needed work holds +0, and the rest is as found
    pub demand_one_work : ((optimized i work32 work64 out).work32 ≡ zeroed (need (dof_of i.manifold * free_count (graph_of i))) work32) × ((optimized i work32 work64 out).work64 ≡ zeroed (24 * (graph_of i).poses) work64)
    demand_one_work = (ap (λ (y : After). y.work32) began, ap (λ (y : After). y.work64) began)

    -- demand 3, for a first damping that is an f32
    pub demand_three : T (fits binary32 i.settings.damping) → (j : Joined) → (optimized i work32 work64 out).answer ≡ Ok j
        → Kept i.settings.limit i.poses j (optimized i work32 work64 out).out
    unfolding ran
    demand_three f j h = rw (come_out h) (kept_whole _ i.settings (fit i c e).0.settings f i.poses j (answered h))

    -- and of the solves tried, which an answer does not count: the answer is taken from what the machine comes to, and its A is that state's `accepted` (joinedOf)
    pub demand_three_solves : T (fits binary32 i.settings.damping) → (first : Float) → (run_parts i).cost i.poses ≡ done first
        → ((optimized i work32 work64 out).answer ≡ answer_of first (last_of i first)) × ((state_of (last_of i first)).solves ≤ 2 * (state_of (last_of i first)).accepted + 55)
    unfolding ran whole
    demand_three_solves f first h = (
      ap (λ (y : After). y.answer) began ∙ ap (λ (x : Ended Float). (whole_from (run_parts i) i.settings i.poses x).answer) h,
      (whole_held (run_parts i) i.settings (fit i c e).0.settings f i.poses first).tried,
    )
