-- Fixed and edgeless poses keep their bits (document 01): in the output of every joined run each number of a pose that is not free is the one given.
-- Assumes nothing.
use Prim.Native.Nat.{ℕ, ◌+◌, ◌*◌, ◌/◌, ◌%◌, ◌<◌}
use native.Mathlib.Omega.{arith}
use Rattle.std.specs.Prelude.{None, Ok, Option, Some}
use mathlib.Core.Path.{◌≡◌, refl, sym, ap, ◌∙◌}
use mathlib.Core.Bool.{Bool, true, false, and-false}
use mathlib.Core.List.{List}
use lib.Dec.{ltb, eqb}
use lib.ListN.{length, get_or, get_or-eq_default}
use lib.Ieee.{Float, nan}
use borrow.Author.Tests.{eq-eqb, ne_eqb, ltb-true, ltb-false}
use Rattle.numbers.specs.Notation.{number_at}
use Rattle.numbers.specs.Walks.{some, Ended, done, stopped}
use Rattle.numbers.proofs.Choices.{left}
use Rattle.numbers.proofs.Tables.{length_table, get_d_table}
use Rattle.numbers.proofs.Walking.{some_hit, some_never}
use Rattle.graph.specs.Graph.{Graph, touches, is_free, slot_at, block_of, links_of}
use Rattle.graph.specs.declared.Manifold.{Manifold}
use Rattle.rows.specs.declared.Settings.{Settings}
use Rattle.checks.specs.Input.{Input, graph_of}
use Rattle.retraction.specs.Retraction.{unit_of}
use Rattle.decisions.proofs.Keeping.{played_keeps}
use Rattle.trials.specs.Trials.{number_by, moved_numbers}
use Rattle.sparse_pgo.specs.declared.Joined.{Joined}
use Rattle.sparse_pgo.specs.Parts.{Parts, Found, step, no_step, step_to, moved_to, numerics, whole_from, whole}
use Rattle.sparse_pgo.specs.Numerics.{parts_on, parts_of}
use Rattle.sparse_pgo.specs.Optimize.{ran, optimized}
use Rattle.sparse_pgo.proofs.Demands.{come_out}
use Rattle.sparse_pgo.proofs.Costed.{joined_fit}

-- ---- what every trial of a run's parts keeps, the whole run keeps

module _ {X S D : Type 0} (p : Parts X S D) (P : X → Type 0) (kept : (x : X) (d : D) → P x → P (p.trial x d).1) where
  step_keeps : (x : X) → P x → (f : Found D) → P (step_to p x f)
  step_keeps x h no_step = h
  step_keeps x h (step d) = kept x d h

  moved_keeps : (x : X) (damping : Float) → P x → P ((numerics p).moved x damping)
  unfolding numerics
  moved_keeps x damping h = go (p.assembled x)
    where
      go : (a : Ended S) → P (moved_to p x damping a)
      go (done s) = step_keeps x h (p.solve s damping)
      go (stopped k why s) = h

  whole_keeps : (set : Settings) (x : X) → P x → P (whole p set x).held
  unfolding whole
  whole_keeps set x h = go (p.cost x)
    where
      go : (e : Ended Float) → P (whole_from p set x e).held
      go (done c) = played_keeps P (numerics p) moved_keeps set.limit set.cost_tolerance c set.damping x h
      go (stopped k why c) = h

-- ---- a trial keeps the count of the numbers, and each number of a pose whose slot is Fixed

module _ (m : Manifold) (slot : ℕ → Option ℕ) (l : List Float) (δ : ℕ → Float) where
  trial_length : length (moved_numbers m slot l δ) ≡ length l
  unfolding moved_numbers
  trial_length = length_table _ _

  module _ (x c : ℕ) (small : c < 12) (fixed : slot x ≡ None) where
    abbrev at : ℕ
    at = x * 12 + c

    same_number : number_by m l δ (at / 12) (at % 12) (slot (at / 12)) ≡ number_at l at
    same_number =
        let pose : (x * 12 + c) / 12 ≡ x = omega arith in
        let number : (x * 12 + c) % 12 ≡ c = omega arith in
        rw (pose, number, fixed)

    trial_number : number_at (moved_numbers m slot l δ) at ≡ number_at l at
    unfolding moved_numbers
    trial_number = go (ltb at (length l)) refl
      where
        go : (b : Bool) → ltb at (length l) ≡ b → number_at (moved_numbers m slot l δ) at ≡ number_at l at
        go true e = get_d_table _ (length l) at nan (ltb-true at (length l) e) ∙ same_number
        go false e =
            let past = ltb-false at (length l) e in
            let long = trial_length in
            get_or-eq_default (moved_numbers m slot l δ) nan (omega arith) ∙ sym (get_or-eq_default l nan (omega arith))

-- ---- a pose that is not free has the slot Fixed; fixed and edgeless poses are not free

module _ {P M : Type 0} (g : Graph P M) (x : ℕ) where
  unfree_slot : is_free g x ≡ false → slot_at g x ≡ None
  unfolding slot_at
  unfree_slot h = sym (left (Some (block_of g x)) h refl)

  fixed_unfree : g.fixed x ≡ true → is_free g x ≡ false
  unfolding is_free
  fixed_unfree h = rw h (and-false (some (touches g x) g.edges))

  edgeless_unfree : ((k : ℕ) → k < g.edges → (g.a k ≡ x → ⊥) × (g.b k ≡ x → ⊥)) → is_free g x ≡ false
  unfolding is_free
  edgeless_unfree h = rw (some_never (touches g x) g.edges untouched)
    where
      untouched : (k : ℕ) → k < g.edges → touches g x k ≡ false
      untouched k l = rw (ne_eqb (g.a k) x (h k l).0) (ne_eqb (g.b k) x (h k l).1)

-- ---- of the public promise

module _ (i : Input) (work32 work64 out : List Float) (j : Joined) (e : (optimized i work32 work64 out).answer ≡ Ok j) where
  -- the output is what the run came to hold
  out_held : (optimized i work32 work64 out).out ≡ (ran i).held
  out_held =
      let (c, h) = joined_fit i work32 work64 out j e in
      come_out i work32 work64 out c h e

  pub keeps_length : length (optimized i work32 work64 out).out ≡ length i.poses
  unfolding ran parts_on links_of
  keeps_length =
      ap length out_held
      ∙ whole_keeps (parts_of (unit_of i.manifold) i.settings (graph_of i)) (λ l. length l ≡ length i.poses)
      (λ l δ h. trial_length (unit_of i.manifold) (slot_at (graph_of i)) l δ ∙ h) i.settings i.poses refl

  module _ (x c : ℕ) (small : c < 12) where
    pub keeps_bits : is_free (graph_of i) x ≡ false → number_at (optimized i work32 work64 out).out (x * 12 + c) ≡ number_at i.poses (x * 12 + c)
    unfolding ran parts_on links_of
    keeps_bits free =
        ap (λ (l : List Float). number_at l (x * 12 + c)) out_held
        ∙ whole_keeps (parts_of (unit_of i.manifold) i.settings (graph_of i)) (λ l. number_at l (x * 12 + c) ≡ number_at i.poses (x * 12 + c))
        (λ l δ h. trial_number (unit_of i.manifold) (slot_at (graph_of i)) l δ x c small (unfree_slot (graph_of i) x free) ∙ h) i.settings i.poses refl

    -- a pose that stands in the fixed list
    pub fixed_keep_bits : (k : ℕ) → k < length i.fixed → get_or i.fixed k 0 ≡ x
        → number_at (optimized i work32 work64 out).out (x * 12 + c) ≡ number_at i.poses (x * 12 + c)
    fixed_keep_bits k l named =
        keeps_bits (fixed_unfree (graph_of i) x (some_hit (λ n. eqb (get_or i.fixed n 0) x) k (length i.fixed) l (eq-eqb (get_or i.fixed k 0) x named)))

    -- a pose that no edge names
    pub edgeless_keep_bits : ((k : ℕ) → k < (graph_of i).edges → ((graph_of i).a k ≡ x → ⊥) × ((graph_of i).b k ≡ x → ⊥))
        → number_at (optimized i work32 work64 out).out (x * 12 + c) ≡ number_at i.poses (x * 12 + c)
    edgeless_keep_bits unnamed = keeps_bits (edgeless_unfree (graph_of i) x unnamed)
