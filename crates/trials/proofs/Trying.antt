-- What each return of a trial answers and leaves. Assumes nothing.
use Rattle.costs.specs.declared.BadEdge.{BadEdge}
use Rattle.std.specs.Prelude.{Err, Ok, Result}
use mathlib.Core.Path.{◌≡◌, refl, sym, ap, ap₂, ◌∙◌}
use mathlib.Core.Bool.{Bool, true, false}
use mathlib.Core.List.{List}
use Prim.Native.Nat.{ℕ, ◌*◌, ◌/◌}
use lib.ListN.{length, get_or, take, drop}
use lib.Ieee.{Float, nan, binary32, of_bits, lt, round}
use Rattle.numbers.specs.Notation.{ratio32, if_then}
use Rattle.numbers.specs.declared.Failure.{Failure}
use Rattle.numbers.proofs.Parted.{part_from, part_from_lem}
use Rattle.graph.specs.Graph.{Links}
use Rattle.graph.specs.Lent.{pose_at}
use Rattle.graph.specs.declared.Edge.{Edge}
use Rattle.graph.specs.declared.Manifold.{Manifold}
use Rattle.costs.specs.Costs.{cost_of}
use Rattle.decisions.specs.Run.{judged, heard}
use Rattle.decisions.specs.declared.Numerical.TheVariants as numerical
use Rattle.decisions.specs.declared.Reason.{Reason}
use Rattle.decisions.specs.declared.Reason.TheVariants as reason
use Rattle.decisions.specs.declared.Trial.{Trial}
use Rattle.decisions.specs.declared.Trial.TheVariants as trial
use Rattle.decisions.specs.declared.Outcome.TheVariants as outcome
use Rattle.trials.specs.Trials.{norm_of, step_tolerance, moves, half, trial_in, taken_over, try_answers, try_leaves}
use Rattle.trials.specs.forms.Passes.{Retracted, Evaluated}
use Rattle.trials.proofs.Priced.{cost_had, cost_bad}

-- ---- the trial

module _ (m : Manifold) (l : Links Edge) (price : Float) (δ : ℕ → Float) (before : List Float) {after : List Float} {r : Bool} (h : Retracted m l.slot δ before r after) where
  -- a retraction failed
  pub trial_unmoved : r ≡ false → Evaluated m l price δ before (trial.Rejected (reason.Numerical numerical.Retraction)) after
  unfolding heard
  trial_unmoved e =
      let n : moves m l.slot (length before / 24) (take (half before) before) δ ≡ false = sym h.answer ∙ e in
      record { answer = rw n; poses = h.poses }

  -- all went well
  module _ (e : r ≡ true) {found : Result Float BadEdge} (long : length after ≡ length before) (p : found ≡ cost_of l (pose_at (part_from (length after / 24 * 12) after))) where
    went : moves m l.slot (length before / 24) (take (half before) before) δ ≡ true
    went = sym h.answer ∙ e

    at : cost_of l (pose_at (part_from (length after / 24 * 12) after)) ≡ cost_of l (pose_at (drop (half before) (trial_in m l.slot δ before)))
    at =
        ap (λ (x : List Float). cost_of l (pose_at x))
        (part_from_lem (length after / 24 * 12) after ∙ ap₂ (λ (k : ℕ) (x : List Float). drop (k / 24 * 12) x) long h.poses)

    pub trial_unpriced : {k : ℕ} {why : Failure} → found ≡ Err (record { edge = k; why = why }) → Evaluated m l price δ before (trial.Rejected (reason.Numerical numerical.Unpriced)) after
    unfolding heard
    trial_unpriced {k} {why} q = let c = cost_bad l _ found (p ∙ at) k why q in record { answer = rw (went, c.ends); poses = h.poses }

    pub trial_priced : {new : Float} {t : Trial} → found ≡ Ok new → t ≡ judged price new → Evaluated m l price δ before t after
    unfolding heard
    trial_priced {new} q j = let c = cost_had l _ found (p ∙ at) new q in record { answer = rw (went, c, j); poses = h.poses }

-- ---- the step

step_tolerance_lem : step_tolerance ≡ of_bits binary32 0x3586_37bd
unfolding ratio32 round of_bits
step_tolerance_lem = refl

module _ (m : Manifold) (l : Links Edge) (price : Float) (step before : List Float) {norm tolerance : Float}
    (e : norm ≡ norm_of (λ i. get_or step i nan) (length step)) (q : tolerance ≡ of_bits binary32 0x3586_37bd) where
  abbrev then : List Float
  then = trial_in m l.slot (λ i. get_or step i nan) before

  small_is : lt norm tolerance ≡ lt (norm_of (λ i. get_or step i nan) (length step)) step_tolerance
  small_is = ap₂ lt e (q ∙ sym step_tolerance_lem)

  pub try_small : lt norm tolerance ≡ true → (outcome.Small ≡ try_answers m l price step before) × (before ≡ try_leaves outcome.Small before then)
  unfolding try_answers heard if_then
  try_small t = (rw (sym small_is ∙ t), refl)

  module _ (t : lt norm tolerance ≡ false) {r : Trial} {after : List Float} (v : Evaluated m l price (λ i. get_or step i nan) before r after) where
    answered : outcome.Tried r ≡ try_answers m l price step before
    unfolding try_answers if_then
    answered = rw (sym small_is ∙ t) v.answer

    pub try_accepted : {c : Float} {last : List Float} → r ≡ trial.Accepted c → last ≡ taken_over after
        → (outcome.Tried r ≡ try_answers m l price step before) × (last ≡ try_leaves (outcome.Tried r) before then)
    try_accepted a f = (answered, f ∙ ap taken_over v.poses ∙ ap (λ (z : Trial). try_leaves (outcome.Tried z) before then) (sym a))

    pub try_rejected : {w : Reason} → r ≡ trial.Rejected w → (outcome.Tried r ≡ try_answers m l price step before) × (after ≡ try_leaves (outcome.Tried r) before then)
    try_rejected a = (answered, v.poses ∙ ap (λ (z : Trial). try_leaves (outcome.Tried z) before then) (sym a))
