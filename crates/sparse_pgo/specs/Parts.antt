-- The run from its parts: first cost, assembly, solve, trial, over whatever holds the poses, on the machine of `decisions`.
-- Document 01, "The solve and the run". X holds the poses, S is a system, D a step. Definitions only.
use Rattle.numbers.specs.declared.Refusal.{Refusal}
use Rattle.std.specs.Prelude.{ℕ, Bool, true, false, Float, Err, Ok, Result}
use Rattle.numbers.specs.Notation.{if_then}
use Rattle.numbers.specs.Walks.{Ended, done, stopped}
use Rattle.numbers.specs.Refusals.{refusal}
use Rattle.numbers.specs.declared.Failure.{Failure}
use Rattle.numbers.specs.declared.Failure.TheVariants.{Numerical}
use Rattle.assembly.specs.Assembly.{assembly_row}
use Rattle.rows.specs.declared.Settings.{Settings}
use Rattle.decisions.specs.Run.{iterations}
use Rattle.decisions.specs.Machine.{Numerics, Play, played}
use Rattle.decisions.specs.declared.State.{State}
use Rattle.decisions.specs.declared.Assembly.{Assembly}
use Rattle.decisions.specs.declared.Assembly.TheVariants as assembly
use Rattle.decisions.specs.declared.Raw.{Raw}
use Rattle.decisions.specs.declared.Raw.TheVariants as raw
use Rattle.decisions.specs.declared.Why.{Why}
use Rattle.decisions.specs.declared.Why.TheVariants as why
use Rattle.decisions.specs.declared.Next.{Next}
use Rattle.decisions.specs.declared.Next.TheVariants as next
use Rattle.trials.specs.Trials.{tried_as}
use Rattle.sparse_pgo.specs.declared.Joined.{Joined}

pub data Found (D : Type 0) : Type 0 where
  step : D → Found D
  no_step : Found D

pub record Parts (X S D : Type 0) : Type 0 where
  pub cost : X → Ended Float
  pub assembled : X → Ended S
  -- the gradient's norm is below its tolerance
  pub flat : S → Bool
  pub solve : S → Float → Found D
  -- the step's norm is below 1e-6
  pub small : D → Bool
  -- whether every retraction went well, and the poses then
  pub trial : X → D → Bool × X

-- the row of a first cost that can't be had; that of an assembly stands with it (`assembly_row`)
abbrev pub cost_row : Failure → ℕ
cost_row Numerical = 20

module _ {X S D : Type 0} (p : Parts X S D) where
  -- ---- what the assembly comes to

  abbrev pub assembly_of : Ended S → Assembly
  assembly_of (done s) = if_then (p.flat s) assembly.Flat assembly.Steep
  assembly_of (stopped k why s) = assembly.Refused (refusal (assembly_row why) k)

  -- ---- what a solve comes to, its trial not yet judged; and the poses of the trial

  abbrev pub trial_as : Bool × X → Raw
  trial_as (well, x) = tried_as well (p.cost x)

  abbrev pub step_as : X → Found D → Raw
  step_as x no_step = raw.Failed
  step_as x (step d) = if_then (p.small d) raw.Small (trial_as (p.trial x d))

  abbrev pub attempt_as : X → Float → Ended S → Raw
  attempt_as x damping (done s) = step_as x (p.solve s damping)
  attempt_as x damping (stopped k why s) = raw.Failed

  abbrev pub step_to : X → Found D → X
  step_to x no_step = x
  step_to x (step d) = (p.trial x d).1

  abbrev pub moved_to : X → Float → Ended S → X
  moved_to x damping (done s) = step_to x (p.solve s damping)
  moved_to x damping (stopped k why s) = x

  unfoldable pub numerics : Numerics X
  numerics = record {
    assemble = λ x. assembly_of (p.assembled x);
    attempt = λ x damping. attempt_as x damping (p.assembled x);
    moved = λ x damping. moved_to x damping (p.assembled x);
  }

-- ---- the answer

abbrev pub has_converged : Why → Bool
has_converged why.Budget = false
has_converged why.Gradient = true
has_converged why.Step = true
has_converged why.Cost = true
has_converged why.Damping = false

-- a run that stopped so, after so many iterations
abbrev pub joined_after : ℕ → Float → State → Why → Joined
joined_after n first s w =
    record {
      iterations = n;
      converged = has_converged w;
      accepted = s.accepted;
      rejected = s.rejected;
      failed = s.failed;
      first_cost = first;
      last_cost = s.cost;
      why = w;
    }

abbrev pub joined_of : Float → State → Why → Joined
joined_of first s w = joined_after (iterations s) first s w

abbrev pub answer_after : ℕ → Float → State → Result Why Refusal → Result Joined Refusal
answer_after n first s (Ok w) = Ok (joined_after n first s w)
answer_after n first s (Err r) = Err r

-- (a run over `enough` turns has ended: `played_ends` of decisions. So the first line is never used.)
abbrev pub answer_of : Float → Next → Result Joined Refusal
answer_of first (next.On s) = Err (refusal 0 0)
answer_of first (next.Over s e) = answer_after (iterations s) first s e

-- ---- the whole run: first cost (20), then the machine

pub record Whole (X : Type 0) : Type 0 where
  pub answer : Result Joined Refusal
  pub held : X

module _ {X S D : Type 0} (p : Parts X S D) (set : Settings) where
  abbrev pub ran_from : Float → Play X → Whole X
  ran_from c y = record { answer = answer_of c y.next; held = y.held }

  abbrev pub whole_from : X → Ended Float → Whole X
  whole_from x (done c) = ran_from c (played (numerics p) set.limit set.cost_tolerance c set.damping x)
  whole_from x (stopped k why c) = record { answer = Err (refusal (cost_row why) k); held = x }

  unfoldable pub whole : X → Whole X
  whole x = whole_from x (p.cost x)
