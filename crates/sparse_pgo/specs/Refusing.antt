-- Rows 20 to 22, of a run past the checks: document 01, "What is turned down, and in what order". Definitions only.
use Rattle.sparse_pgo.specs.declared.Joined.{Joined}
use Rattle.decisions.specs.declared.Why.{Why}
use Rattle.std.specs.Prelude.{ℕ, ◌<◌, ◌≡◌, true, List, Float, None, Result}
use Rattle.std.specs.Float.Ieee.{lt}
use Rattle.numbers.specs.Walks.{done, stopped}
use Rattle.numbers.specs.Refusals.{refusal}
use Rattle.numbers.specs.declared.Failure.{Failure}
use Rattle.numbers.specs.declared.Refusal.{Refusal}
use Rattle.checks.specs.Input.{Input, graph_of}
use Rattle.retraction.specs.Retraction.{unit_of}
use Rattle.decisions.specs.Damping.{increased, lambda_max}
use Rattle.decisions.specs.Run.{begun, iterations, passed}
use Rattle.decisions.specs.Machine.{Play, play, enough}
use Rattle.decisions.specs.Demand.{Held, solves_tried}
use Rattle.decisions.specs.declared.State.{State}
use Rattle.decisions.specs.declared.Next.{Next}
use Rattle.decisions.specs.declared.Next.TheVariants as next
use Rattle.sparse_pgo.specs.Parts.{Parts, no_step, numerics, answer_after}
use Rattle.sparse_pgo.specs.Numerics.{parts_of}

-- the parts of an input's run
abbrev pub run_parts : Input → Parts (List Float) (List Float) (ℕ → Float)
run_parts i = parts_of (unit_of i.manifold) i.settings (graph_of i)

-- what the run of an input comes to in so many turns from its first cost; and in all its turns
abbrev pub played_for : Input → Float → ℕ → Play (List Float)
played_for i first turns =
    play (numerics (run_parts i)) i.settings.limit i.settings.cost_tolerance turns (next.On (begun first i.settings.damping)) i.poses

abbrev pub last_of : Input → Float → Next
last_of i first = (played_for i first (enough i.settings.limit)).next

-- a run that had its first cost and goes on, after so many turns, in the state s with the poses x
pub record GoesOn (i : Input) (s : State) (x : List Float) : Type 0 where
  pub first : Float
  pub had : (run_parts i).cost i.poses ≡ done first
  pub turns : ℕ
  pub come_to : played_for i first turns ≡ record { next = next.On s; held = x }

-- row 20: the first cost can't be had, and k is the first bad edge
pub record NoFirstCost (i : Input) (k : ℕ) : Type 0 where
  pub why : Failure
  pub left : Float
  pub cost : (run_parts i).cost i.poses ≡ stopped k why left

-- row 21: the system is to be assembled, the limit not being reached, and the assembly can't be had; k is the first bad edge
pub record NoAssembly (i : Input) (k : ℕ) : Type 0 where
  pub state : State
  pub held : List Float
  pub on : GoesOn i state held
  pub due : state.fresh ≡ true
  pub within : iterations state < i.settings.limit
  pub why : Failure
  pub left : List Float
  pub assembly : (run_parts i).assembled held ≡ stopped k why left

-- row 22: the run goes on to a solve, the solve fails, and the damping raised is above 1e10
pub record Overdamped (i : Input) : Type 0 where
  pub state : State
  pub held : List Float
  pub on : GoesOn i state held
  pub to_solve : passed i.settings.limit state ((numerics (run_parts i)).assemble held) ≡ None
  pub system : List Float
  pub assembly : (run_parts i).assembled held ≡ done system
  pub failed : (run_parts i).solve system state.damping ≡ no_step
  pub past : lt lambda_max (increased state.damping) ≡ true

-- the refusals of a run past the checks, each with its row
pub data RunRefuses (i : Input) : Refusal → Type 0 where
  row_20 : {k : ℕ} → NoFirstCost i k → RunRefuses i (refusal 20 k)
  row_21 : {k : ℕ} → NoAssembly i k → RunRefuses i (refusal 21 k)
  row_22 : Overdamped i → RunRefuses i (refusal 22 0)

-- demand 3, of a run that had its first cost and gave the answer a: it is over, in a state that keeps the demand's bounds, and a says how it ended
pub record EndedRun (i : Input) (first : Float) (a : Result Joined Refusal) : Type 0 where
  pub state : State
  pub how : Result Why Refusal
  pub last : last_of i first ≡ next.Over state how
  pub said : a ≡ answer_after (iterations state) first state how
  pub held : Held i.settings.limit first state
  pub solves : state.solves ≡ solves_tried state how
