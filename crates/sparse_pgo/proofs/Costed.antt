-- What a joined run says of its costs is so: the first is that of the poses given, the last that of the poses given back; so every active edge has a
-- residual at both. For a first damping that is an f32. Assumes nothing.
use Rattle.numbers.specs.declared.Refusal.{Refusal}
use Rattle.std.specs.Prelude.{Err, None, Ok, Option, Result, is_some}
use mathlib.Core.Path.{◌≡◌, refl, ap, subst, ◌∙◌}
use mathlib.Core.Bool.{Bool, true, false, or-true}
use mathlib.Core.List.{List}
use Prim.Native.Nat.{ℕ, ◌<◌}
use native.Mathlib.Omega.{arith}
use lib.Dec.{T, eqb}
use lib.Ieee.{Float, binary32, fits}
use borrow.Author.Tests.{eq-eqb}
use Rattle.numbers.specs.Notation.{if_then}
use Rattle.numbers.specs.Walks.{Ended, done, stopped}
use Rattle.numbers.proofs.Choices.{taken}
use Rattle.numbers.proofs.Walking.{some_hit}
use Rattle.graph.specs.Graph.{Graph, touches, is_free, slot_at, links_of, is_active}
use Rattle.graph.specs.Lent.{pose_at}
use Rattle.checks.specs.Input.{Input, graph_of}
use Rattle.checks.specs.Table.{checks}
use Rattle.checks.specs.declared.Counts.{Counts}
use Rattle.rows.specs.declared.Settings.{Settings}
use Rattle.checks.proofs.Passed.{PassedSettings, fit}
use Rattle.residual.specs.Residuals.{has_residual, residual_of}
use Rattle.costs.proofs.HadCost.{cost_residuals}
use Rattle.decisions.specs.Machine.{Play, played, state_of}
use Rattle.decisions.specs.declared.Next.{Next}
use Rattle.decisions.specs.declared.Next.TheVariants as next
use Rattle.decisions.specs.declared.Raw.TheVariants as raw
use Rattle.decisions.proofs.Holding.{played_holds}
use Rattle.sparse_pgo.specs.declared.Joined.{Joined}
use Rattle.trials.specs.Trials.{priced_as}
use Rattle.sparse_pgo.specs.Parts.{Parts, Found, step, no_step, trial_as, step_as, attempt_as, step_to, moved_to, numerics}
use Rattle.sparse_pgo.specs.Parts.{joined_of, answer_of, whole_from, whole}
use Rattle.sparse_pgo.specs.Numerics.{parts_on}
use Rattle.sparse_pgo.specs.Optimize.{after_checks, ran, optimized}
use Rattle.sparse_pgo.proofs.Looping.{not_above}
use Rattle.sparse_pgo.specs.Refusing.{run_parts}
use Rattle.sparse_pgo.proofs.Demands.{answered, come_out}

-- ---- of any parts

module _ {X S D : Type 0} (p : Parts X S D) where
  abbrev Costs : X → Float → Type 0
  Costs x c = p.cost x ≡ done c

  module _ (x : X) (damping new : Float) where
    priced : (y : X) (e : Ended Float) → p.cost y ≡ e → priced_as e ≡ raw.Priced new → Costs y new
    priced y (done c) q e = let same : c ≡ new = cc in q ∙ ap done same
    priced y (stopped k why c) q e = let z : ◌≡◌ {A = ℕ} 0 1 = cc in absurd (omega arith)

    tried : (y : Bool × X) → trial_as p y ≡ raw.Priced new → Costs y.1 new
    tried (true, y) e = priced y (p.cost y) refl e
    tried (false, y) e = let z : ◌≡◌ {A = ℕ} 0 1 = cc in absurd (omega arith)

    large : (y : Bool × X) (b : Bool) → if_then b raw.Small (trial_as p y) ≡ raw.Priced new → Costs y.1 new
    unfolding if_then
    large y true e = let z : ◌≡◌ {A = ℕ} 0 1 = cc in absurd (omega arith)
    large y false e = tried y e

    stepped : (f : Found D) → step_as p x f ≡ raw.Priced new → Costs (step_to p x f) new
    stepped no_step e = let z : ◌≡◌ {A = ℕ} 0 1 = cc in absurd (omega arith)
    stepped (step d) e = large (p.trial x d) (p.small d) e

    attempted : (a : Ended S) → attempt_as p x damping a ≡ raw.Priced new → Costs (moved_to p x damping a) new
    attempted (done s) e = stepped (p.solve s damping) e
    attempted (stopped k why s) e = let z : ◌≡◌ {A = ℕ} 0 1 = cc in absurd (omega arith)

    attempt_costs : (numerics p).attempt x damping ≡ raw.Priced new → Costs ((numerics p).moved x damping) new
    unfolding numerics
    attempt_costs e = attempted (p.assembled x) e

  module _ (set : Settings) (ok : PassedSettings set) (f : T (fits binary32 set.damping)) (x : X) (j : Joined) where
    last_cost : (c : Float) (y : Play X) → p.cost y.held ≡ done (state_of y.next).cost → answer_of c y.next ≡ Ok j
        → (c ≡ j.first_cost) × (p.cost y.held ≡ done j.last_cost)
    last_cost c y h = go y.next h
      where
        go : (n : Next) → p.cost y.held ≡ done (state_of n).cost → answer_of c n ≡ Ok j
            → (c ≡ j.first_cost) × (p.cost y.held ≡ done j.last_cost)
        go (next.On s) h q = let z : ◌≡◌ {A = ℕ} 0 1 = cc in absurd (omega arith)
        go (next.Over s (Err r)) h q = let z : ◌≡◌ {A = ℕ} 0 1 = cc in absurd (omega arith)
        go (next.Over s (Ok w)) h q = let e : joined_of c s w ≡ j = cc in rw (← e) (refl, h)

    pub joined_costs_lem : (whole p set x).answer ≡ Ok j → (p.cost x ≡ done j.first_cost) × (p.cost (whole p set x).held ≡ done j.last_cost)
    unfolding whole
    joined_costs_lem = go (p.cost x) refl
      where
        go : (e : Ended Float) → p.cost x ≡ e → (whole_from p set x e).answer ≡ Ok j
            → (p.cost x ≡ done j.first_cost) × (p.cost (whole_from p set x e).held ≡ done j.last_cost)
        go (stopped k why c) h q = let z : ◌≡◌ {A = ℕ} 0 1 = cc in absurd (omega arith)
        go (done c) h q =
            let y = played (numerics p) set.limit set.cost_tolerance c set.damping x in
            let held = played_holds Costs (numerics p) attempt_costs set.limit set.cost_tolerance c set.damping x ok.most_limit f
            ok.damping_above (not_above set.damping ok.damping_above ok.damping_most) h in
            let l = last_cost c y held q in
            (h ∙ ap done l.0, l.1)

-- ---- an edge one of whose ends is not fixed is active

module _ {P M : Type 0} (g : Graph P M) (k : ℕ) (h : k < g.edges) where
  unfixed_block : (x : ℕ) → touches g x k ≡ true → g.fixed x ≡ false → is_some (slot_at g x) ≡ true
  unfolding slot_at is_free
  unfixed_block x t n =
      let free : is_free g x ≡ true = rw (some_hit (touches g x) k g.edges h t, n) in
      subst (λ (s : Option ℕ). is_some s ≡ true) (taken None free refl) refl

  pub active_by_a : g.fixed (g.a k) ≡ false → is_active (links_of g) k ≡ true
  unfolding links_of
  active_by_a n = rw (unfixed_block (g.a k) (rw (eq-eqb (g.a k) (g.a k) refl)) n)

  pub active_by_b : g.fixed (g.b k) ≡ false → is_active (links_of g) k ≡ true
  unfolding links_of
  active_by_b n =
      let here : touches g (g.b k) k ≡ true = rw (eq-eqb (g.b k) (g.b k) refl) (or-true (eqb (g.a k) (g.b k))) in
      let block : is_some (slot_at g (g.b k)) ≡ true = unfixed_block (g.b k) here n in
      rw block (or-true (is_some (slot_at g (g.a k))))

-- ---- of the public promise

module _ (i : Input) (work32 work64 out : List Float) (j : Joined) (e : (optimized i work32 work64 out).answer ≡ Ok j) where
  pub joined_fit : (c : Counts) × ((checks i).answer ≡ Ok c)
  unfolding optimized
  joined_fit = go (checks i).answer refl e
    where
      go : (v : Result Counts Refusal) → (checks i).answer ≡ v → (after_checks i work32 work64 out v).answer ≡ Ok j
          → (c : Counts) × ((checks i).answer ≡ Ok c)
      go (Err r) h q = let z : ◌≡◌ {A = ℕ} 0 1 = cc in absurd (omega arith)
      go (Ok c) h q = (c, h)

  module _ (f : T (fits binary32 i.settings.damping)) where
    pub costs_so : ((run_parts i).cost i.poses ≡ done j.first_cost) × ((run_parts i).cost (optimized i work32 work64 out).out ≡ done j.last_cost)
    unfolding ran
    costs_so =
        let (c, h) = joined_fit in
        rw (come_out i work32 work64 out c h e)
        (joined_costs_lem (run_parts i) i.settings (fit i c h).0.settings f i.poses j (answered i work32 work64 out c h e))

    -- whether edge k has a residual with the poses at these numbers
    abbrev pub has_at : List Float → ℕ → Bool
    has_at l k = has_residual (residual_of (pose_at l ((graph_of i).a k)) (pose_at l ((graph_of i).b k)) ((graph_of i).measured k))

    -- at the poses given and at those given back
    pub active_residuals : (k : ℕ) → k < (graph_of i).edges → is_active (links_of (graph_of i)) k ≡ true
        → (has_at i.poses k ≡ true) × (has_at (optimized i work32 work64 out).out k ≡ true)
    unfolding parts_on links_of
    active_residuals k h a = (
      cost_residuals (links_of (graph_of i)) (pose_at i.poses) _ costs_so.0 k h a,
      cost_residuals (links_of (graph_of i)) (pose_at (optimized i work32 work64 out).out) _ costs_so.1 k h a,
    )
