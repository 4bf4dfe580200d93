-- What the exported runs give back and write: a run on either manifold, the decisions over a prepared list, an assembly alone. A slice of another length than
-- named gets 4294967295 back, and nothing is changed. Definitions only.
use Rattle.numbers.specs.declared.Refusal.{Refusal}
use Rattle.sparse_pgo.specs.declared.Joined.{Joined}
use Rattle.std.specs.Prelude.{ℕ, Bool, ◌&&◌, ◌||◌, List, eqb, leb, length, get_or, Float, Err, None, Ok, Option, Result, Some}
use Rattle.numbers.specs.Notation.{if_then}
use Rattle.numbers.specs.Walks.{every}
use Rattle.numbers.specs.Refusals.{verdict, Verdict}
use Rattle.checks.specs.Input.{Input, lent}
use Rattle.rows.specs.Tests.{setting_rows}
use Rattle.graph.specs.declared.Manifold.{Manifold}
use Rattle.graph.specs.declared.Manifold.TheVariants.{Se3, Gravity}
use Rattle.rows.specs.declared.Settings.{Settings}
use Rattle.rows.specs.declared.Room.{Room}
use Rattle.decisions.specs.Run.{begun}
use Rattle.events.specs.Driven.{driven, events_of}
use Rattle.decisions.specs.declared.Next.{Next}
use Rattle.decisions.specs.declared.Next.TheVariants as next
use Rattle.normal_system.specs.NormalSystem.{assembling, system_of}
use Rattle.sparse_pgo.specs.Parts.{answer_of}
use Rattle.sparse_pgo.specs.Optimize.{After, optimized}
use Rattle.telling.specs.Telling.{joined_costs, answer_eight}
use Rattle.exports.specs.Layers.{unfit_number, three}

-- ---- what is told of an answer

abbrev pub number_of : Result Joined Refusal → ℕ
number_of (Ok j) = 0
number_of (Err r) = r.number

-- both costs; as found where refused
abbrev pub costs_of : List Float → Result Joined Refusal → List Float
costs_of found (Ok j) = joined_costs j
costs_of found (Err r) = found

-- the number given back, the eight numbers, the costs
abbrev pub told : List Float → Result Joined Refusal → ℕ × List ℕ × List Float
told found a = (number_of a, answer_eight a, costs_of found a)

abbrev pub settings : ℕ → Float → Float → Float → Settings
settings limit cost gradient damping =
    record { limit = limit; cost_tolerance = cost; gradient_tolerance = gradient; damping = damping }

-- ---- pgo_optimize and pgo_optimize_with_gravity

-- all that is lent to be written
pub record LentRun : Type 0 where
  pub work32 : List Float
  pub work64 : List Float
  pub out : List Float
  pub answer : List ℕ
  pub costs : List Float

abbrev pub lists : List Float → List Float → List Float → List ℕ → List Float → LentRun
lists work32 work64 out a c = record { work32 = work32; work64 = work64; out = out; answer = a; costs = c }

abbrev pub room_of : LentRun → Room
room_of l = record { work32 = length l.work32; work64 = length l.work64; out = length l.out }

abbrev pub ran_with : LentRun → After → ℕ × LentRun
ran_with l a =
    (number_of a.answer, lists a.work32 a.work64 a.out (answer_eight a.answer) (costs_of l.costs a.answer))

abbrev pub fits_run : ℕ → ℕ → Bool
fits_run a costs = eqb a 8 && eqb costs 2

unfoldable pub exported : Input → LentRun → ℕ × LentRun
exported i l =
    if_then (fits_run (length l.answer) (length l.costs)) (ran_with l (optimized i l.work32 l.work64 l.out)) (unfit_number, l)

-- a run's lent lists, its room what is lent
abbrev pub run_out : Manifold → List Float → List ℕ → List Float → List ℕ → Settings → LentRun → ℕ × LentRun
run_out m poses ends edges fixed set l = exported (lent m poses ends edges fixed set (room_of l)) l

-- ---- pgo_decide: rows 15 to 17 and 19 of its settings first; 1 where the list ended before the run did

abbrev pub decision_of : Float → Next → Option (Result Joined Refusal)
decision_of cost (next.On s) = None
decision_of cost (next.Over s e) = Some (answer_of cost (next.Over s e))

abbrev pub decision_from : Settings → Float → List ℕ → List Float → Verdict → Option (Result Joined Refusal)
decision_from set cost events prices (Err r) = Some (Err r)
decision_from set cost events prices (Ok _) =
    decision_of cost (driven set.limit set.cost_tolerance (next.On (begun cost set.damping)) (events_of events prices))

abbrev pub decided_as : List ℕ → List Float → Option (Result Joined Refusal) → ℕ × List ℕ × List Float
decided_as a c None = (1, a, c)
decided_as a c (Some x) = told c x

-- events are 0 to 6
abbrev pub known : List ℕ → ℕ → Bool
known events n = every (λ k. leb (get_or events k 0) 6) n

-- as many prices as events
abbrev pub fits_decide : ℕ → ℕ → List ℕ → List Float → Bool
fits_decide a costs events prices = eqb a 8 && (eqb costs 2 && (eqb (length events) (length prices) && known events (length events)))

unfoldable pub decided : Settings → Float → List ℕ → List Float → List ℕ → List Float → ℕ × List ℕ × List Float
decided set cost events prices a c =
    if_then (fits_decide (length a) (length c) events prices)
    (decided_as a c (decision_from set cost events prices (verdict (setting_rows set))))
    (unfit_number, a, c)

-- ---- pgo_assemble

-- 6 or 4 degrees of freedom; with 6 gravity is not looked at
abbrev pub manifold_of : ℕ → List Float → Manifold
manifold_of dof g = if_then (eqb dof 6) Se3 (Gravity (three g))

unfoldable pub assemble_out : ℕ → List Float → List Float → List ℕ → List Float → List ℕ → List Float → ℕ × List Float
assemble_out dof g poses ends edges fixed w =
    if_then (eqb (length g) 3 && (eqb dof 6 || eqb dof 4)) (system_of (assembling (manifold_of dof g) poses ends edges fixed w) w) (unfit_number, w)
