-- The run's decisions, what follows each event: document 01, "The solve and the run". Definitions only.
use Rattle.numbers.specs.declared.Refusal.{Refusal}
use Rattle.std.specs.Prelude.{ℕ, ◌+◌, true, false, eqb, leb, Float, Err, None, Ok, Option, Result, Some}
use Rattle.std.specs.Float.Ieee.{lt}
use Rattle.numbers.specs.Notation.{◌⊟◌, ◌⧄◌, num, if_then}
use Rattle.numbers.specs.Refusals.{refusal}
use Rattle.decisions.specs.Damping.{increased, decreased, lambda_max}
use Rattle.decisions.specs.declared.State.{State}
use Rattle.decisions.specs.declared.Reason.TheVariants as reason
use Rattle.decisions.specs.declared.Trial.{Trial}
use Rattle.decisions.specs.declared.Trial.TheVariants as trial
use Rattle.decisions.specs.declared.Assembly.{Assembly}
use Rattle.decisions.specs.declared.Assembly.TheVariants as assembly
use Rattle.decisions.specs.declared.Raw.{Raw}
use Rattle.decisions.specs.declared.Raw.TheVariants as raw
use Rattle.decisions.specs.declared.Outcome.{Outcome}
use Rattle.decisions.specs.declared.Outcome.TheVariants as outcome
use Rattle.decisions.specs.declared.Why.{Why}
use Rattle.decisions.specs.declared.Why.TheVariants as why
use Rattle.decisions.specs.declared.Next.{Next}
use Rattle.decisions.specs.declared.Next.TheVariants as next

-- ---- a trial

-- a trial that has a cost is accepted where that is strictly lower
unfoldable pub judged : Float → Float → Trial
judged cost new = if_then (lt new cost) (trial.Accepted new) (trial.Rejected reason.Cost)

-- what a solve comes to, its trial judged against the cost so far
unfoldable pub heard : Float → Raw → Outcome
heard cost raw.Failed = outcome.Failed
heard cost raw.Small = outcome.Small
heard cost (raw.Priced new) = outcome.Tried (judged cost new)
heard cost (raw.Numerical r) = outcome.Tried (trial.Rejected (reason.Numerical r))

-- the relative drop of the cost
unfoldable pub relative : Float → Float → Float
relative cost new = if_then (lt (num 0) cost) ((cost ⊟ new) ⧄ cost) (cost ⊟ new)

-- ---- the state: A, R, F, the solves tried, whether the system is to be assembled, the damping and the cost

abbrev pub begun : Float → Float → State
begun cost damping = record { accepted = 0; rejected = 0; failed = 0; solves = 0; fresh = true; damping = damping; cost = cost }

-- iterations = A + R
abbrev pub iterations : State → ℕ
iterations s = s.accepted + s.rejected

-- one more, up to the largest u32
unfoldable pub one_more : ℕ → ℕ
one_more n = if_then (eqb n 4294967295) n (n + 1)

-- one more failed solve, the damping raised
abbrev pub after_failed : State → State
after_failed s =
    record {
      accepted = s.accepted;
      rejected = s.rejected;
      failed = one_more s.failed;
      solves = one_more s.solves;
      fresh = false;
      damping = increased s.damping;
      cost = s.cost;
    }

-- one more solve tried
abbrev pub after_small : State → State
after_small s =
    record {
      accepted = s.accepted;
      rejected = s.rejected;
      failed = s.failed;
      solves = one_more s.solves;
      fresh = s.fresh;
      damping = s.damping;
      cost = s.cost;
    }

-- one more trial accepted, the damping lowered; the cost is the trial's, and the system is to be assembled
abbrev pub after_accepted : State → Float → State
after_accepted s new =
    record {
      accepted = one_more s.accepted;
      rejected = s.rejected;
      failed = s.failed;
      solves = one_more s.solves;
      fresh = true;
      damping = decreased s.damping;
      cost = new;
    }

-- one more trial rejected, the damping raised; the same system is solved again
abbrev pub after_rejected : State → State
after_rejected s =
    record {
      accepted = s.accepted;
      rejected = one_more s.rejected;
      failed = s.failed;
      solves = one_more s.solves;
      fresh = false;
      damping = increased s.damping;
      cost = s.cost;
    }

-- ---- what follows a solve

abbrev pub stop : State → Why → Next
stop s w = next.Over s (Ok w)

-- failed: above 1e10 is refusal 22, else solve again
unfoldable pub failing : State → Next
failing s = if_then (lt lambda_max (increased s.damping)) (next.Over (after_failed s) (Err (refusal 22 0))) (next.On (after_failed s))

-- accepted: a relative drop below the tolerance has converged, else to the top
unfoldable pub accepting : State → Float → Float → Next
accepting s tolerance new = if_then (lt (relative s.cost new) tolerance) (stop (after_accepted s new) why.Cost) (next.On (after_accepted s new))

-- rejected: above 1e10 ends unconverged (Damping, named first), the limit reached likewise (Budget), else solve again
unfoldable pub rejecting : State → ℕ → Next
rejecting s limit =
    if_then (lt lambda_max (increased s.damping))
    (stop (after_rejected s) why.Damping)
    (if_then (leb limit (iterations (after_rejected s))) (stop (after_rejected s) why.Budget) (next.On (after_rejected s)))

unfoldable pub solved : State → ℕ → Float → Outcome → Next
solved s limit tolerance outcome.Failed = failing s
solved s limit tolerance outcome.Small = stop (after_small s) why.Step
solved s limit tolerance (outcome.Tried (trial.Accepted new)) = accepting s tolerance new
solved s limit tolerance (outcome.Tried (trial.Rejected r)) = rejecting s limit

-- ---- the top, and a turn

unfoldable pub assembled : Assembly → Option (Result Why Refusal)
assembled (assembly.Refused r) = Some (Err r)
assembled assembly.Flat = Some (Ok why.Gradient)
assembled assembly.Steep = None

-- The top, where the system is to be assembled: the iteration limit (Budget), then what the assembly came to. Elsewhere the same system is solved again.
unfoldable pub passed : ℕ → State → Assembly → Option (Result Why Refusal)
passed limit s a =
    if_then s.fresh (if_then (leb limit (iterations s)) (Some (Ok why.Budget)) (assembled a)) None

unfoldable pub then_solve : Option (Result Why Refusal) → ℕ → Float → State → Raw → Next
then_solve None limit tolerance s e = solved s limit tolerance (heard s.cost e)
then_solve (Some w) limit tolerance s e = next.Over s w

-- a turn: the top, then a solve
unfoldable pub after_turn : ℕ → Float → State → Assembly → Raw → Next
after_turn limit tolerance s a e = then_solve (passed limit s a) limit tolerance s e
