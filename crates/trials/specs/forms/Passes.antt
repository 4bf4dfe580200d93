-- What the private functions of a trial promise. `try_accepted` and `try_rejected` of proofs/Trying tie it to the public promises,
-- `try_answers` and `try_leaves`. Definitions only.
use Rattle.std.specs.Prelude.{ℕ, ◌/◌, ◌<◌, ◌≡◌, Bool, List, length, get_or, take, drop, Float, Option}
use Rattle.std.specs.Float.{nan}
use Rattle.graph.specs.Graph.{Links}
use Rattle.graph.specs.Lent.{pose_at, numbers_of}
use Rattle.graph.specs.declared.Edge.{Edge}
use Rattle.graph.specs.declared.Manifold.{Manifold}
use Rattle.costs.specs.Costs.{cost_ends}
use Rattle.decisions.specs.Run.{heard}
use Rattle.decisions.specs.declared.Trial.{Trial}
use Rattle.decisions.specs.declared.Outcome.TheVariants as outcome
use Rattle.trials.specs.declared.TrialPose.{TrialPose}
use Rattle.trials.specs.Trials.{moves_by, number_by, moves, tried_as, half, trial_in}

-- pose p of a trial
pub record Moves (m : Manifold) (x : List Float) (δ : ℕ → Float) (p : ℕ) (s : Option ℕ) (r : TrialPose) : Type 0 where
  pub answer : r.well ≡ moves_by m x δ p s
  pub numbers : (j : ℕ) → j < 12 → get_or (numbers_of r.pose) j nan ≡ number_by m x δ p j s

-- the poses of a trial
pub record Retracted (m : Manifold) (slot : ℕ → Option ℕ) (δ : ℕ → Float) (before : List Float) (r : Bool) (after : List Float) : Type 0 where
  pub answer : r ≡ moves m slot (length before / 24) (take (half before) before) δ
  pub poses : after ≡ trial_in m slot δ before

-- a trial, judged against the cost
pub record Evaluated (m : Manifold) (l : Links Edge) (cost : Float) (δ : ℕ → Float) (before : List Float) (r : Trial) (after : List Float) : Type 0 where
  pub answer : outcome.Tried r
      ≡ heard cost (tried_as (moves m l.slot (length before / 24) (take (half before) before) δ)
      (cost_ends l (pose_at (drop (half before) (trial_in m l.slot δ before)))))
  pub poses : after ≡ trial_in m l.slot δ before
