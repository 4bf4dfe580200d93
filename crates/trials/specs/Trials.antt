-- The trial of a step δ (document 01, "The solve and the run"): its norm, its poses beside the accepted ones, and what it comes to. Poses are held as
-- their numbers, twelve a pose. Definitions only.
use Rattle.std.specs.Prelude.{ℕ, ◌+◌, ◌*◌, ◌/◌, ◌%◌, Bool, true, false, List, ◌++◌, ltb, length, get_or, take, drop, Float, None, Option, Some}
use Rattle.std.specs.Float.{nan, binary64}
use Rattle.std.specs.Float.Ieee.{lt}
use Rattle.numbers.specs.Notation.{◌⊗◌, num, ratio32, if_then}
use Rattle.roots.specs.Roots.{root64}
use Rattle.numbers.specs.Walks.{every, table, sum_of, Ended, done, stopped}
use Rattle.pose_conversion.specs.Conversions.{restoring}
use Rattle.graph.specs.Graph.{Links}
use Rattle.graph.specs.Lent.{dof_of, pose_at, numbers_of}
use Rattle.graph.specs.declared.Edge.{Edge}
use Rattle.graph.specs.declared.Manifold.{Manifold}
use Rattle.retraction.specs.Retraction.{retract_of}
use Rattle.costs.specs.Costs.{cost_ends}
use Rattle.decisions.specs.Run.{heard}
use Rattle.decisions.specs.declared.Numerical.TheVariants as numerical
use Rattle.decisions.specs.declared.Raw.{Raw}
use Rattle.decisions.specs.declared.Raw.TheVariants as raw
use Rattle.decisions.specs.declared.Trial.TheVariants as trial
use Rattle.decisions.specs.declared.Outcome.{Outcome}
use Rattle.decisions.specs.declared.Outcome.TheVariants as outcome

-- √ of the sum of squares, in f64, from +0
unfoldable pub norm_of : (ℕ → Float) → ℕ → Float
norm_of v n = root64 (sum_of binary64 (λ i. v i ⊗ v i) n)

-- STEP_SIZE_TOLERANCE of the Rust
abbrev pub step_tolerance : Float
step_tolerance = ratio32 1 1000000

-- ---- the trial's poses: each free pose retracted by its part of the step, the others kept

-- the DOF numbers of block b, then +0 up to six
unfoldable pub part_of : ℕ → (ℕ → Float) → ℕ → List Float
part_of dof δ b = table (λ j. if_then (ltb j dof) (δ (b * dof + j)) (num 0)) 6

-- whether pose p of x, with its slot, can be moved; and number j of it then
abbrev pub moves_by : Manifold → List Float → (ℕ → Float) → ℕ → Option ℕ → Bool
moves_by m x δ p None = true
moves_by m x δ p (Some b) = restoring (retract_of m (pose_at x p) (part_of (dof_of m) δ b)) (λ _. true) (λ _. false)

abbrev pub number_by : Manifold → List Float → (ℕ → Float) → ℕ → ℕ → Option ℕ → Float
number_by m x δ p j None = get_or x (p * 12 + j) nan
number_by m x δ p j (Some b) =
    restoring (retract_of m (pose_at x p) (part_of (dof_of m) δ b)) (λ r. get_or (numbers_of r) j nan) (λ _. get_or x (p * 12 + j) nan)

unfoldable pub moves : Manifold → (ℕ → Option ℕ) → ℕ → List Float → (ℕ → Float) → Bool
moves m slot poses x δ = every (λ p. moves_by m x δ p (slot p)) poses

unfoldable pub moved_numbers : Manifold → (ℕ → Option ℕ) → List Float → (ℕ → Float) → List Float
moved_numbers m slot x δ = table (λ q. number_by m x δ (q / 12) (q % 12) (slot (q / 12))) (length x)

-- ---- what a trial comes to, not yet judged: a retraction that failed is tested first

abbrev pub priced_as : Ended Float → Raw
priced_as (done c) = raw.Priced c
priced_as (stopped k why c) = raw.Numerical numerical.Unpriced

abbrev pub tried_as : Bool → Ended Float → Raw
tried_as true c = priced_as c
tried_as false c = raw.Numerical numerical.Retraction

-- ---- in lent numbers w, whatever their count: as many poses as stand in w twice, the accepted ones, then the trial's

abbrev pub half : List Float → ℕ
half w = length w / 24 * 12

-- the trial's poses behind the accepted ones; what is past them is never touched
abbrev pub trial_in : Manifold → (ℕ → Option ℕ) → (ℕ → Float) → List Float → List Float
trial_in m slot δ w = take (half w) w ++ (moved_numbers m slot (take (half w) w) δ ++ drop (half w + half w) w)

-- the trial's poses taken over as the accepted ones
abbrev pub taken_over : List Float → List Float
taken_over w = take (half w) (drop (half w) w) ++ drop (half w) w

-- what the step comes to, its trial judged against the cost so far
unfoldable pub try_answers : Manifold → Links Edge → Float → List Float → List Float → Outcome
try_answers m l cost step w =
    let δ : ℕ → Float = λ i. get_or step i nan in
    heard cost
    (if_then (lt (norm_of δ (length step)) step_tolerance) raw.Small
    (tried_as (moves m l.slot (length w / 24) (take (half w) w) δ) (cost_ends l (pose_at (drop (half w) (trial_in m l.slot δ w))))))

-- the numbers then: a step that was not tried leaves them as they were
abbrev pub try_leaves : Outcome → List Float → List Float → List Float
try_leaves outcome.Failed before w = before
try_leaves outcome.Small before w = before
try_leaves (outcome.Tried (trial.Accepted c)) before w = taken_over w
try_leaves (outcome.Tried (trial.Rejected r)) before w = w
