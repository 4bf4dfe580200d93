-- The run over a prepared list of events: document 01, "The solve and the run", its last paragraph. Definitions only.
use Rattle.std.specs.Prelude.{ℕ, List, [], ◌∷◌, ◌&&◌, eqb, leb, length, get_or, Float}
use Rattle.std.specs.Float.{nan}
use Rattle.numbers.specs.Notation.{if_then}
use Rattle.numbers.specs.Walks.{table}
use Rattle.numbers.specs.Refusals.{refusal}
use Rattle.decisions.specs.Run.{after_turn, iterations, stop}
use Rattle.decisions.specs.declared.Numerical.TheVariants as numerical
use Rattle.decisions.specs.declared.Assembly.TheVariants as assembly
use Rattle.decisions.specs.declared.Raw.TheVariants as raw
use Rattle.decisions.specs.declared.Why.TheVariants as why
use Rattle.events.specs.declared.Event.{Event}
use Rattle.events.specs.declared.Event.TheVariants as event
use Rattle.decisions.specs.declared.Next.{Next}
use Rattle.decisions.specs.declared.Next.TheVariants as next

-- an event by its number: 0 assembly refused, 1 gradient below its tolerance, 2 solve failed, 3 step small, 4 trial with this cost,
-- 5 retraction failed, and any other: the trial's cost can't be had
unfoldable pub event_of : ℕ → Float → Event
event_of n price =
    if_then (eqb n 0) (event.Assembled (assembly.Refused (refusal 21 0)))
    (if_then (eqb n 1) (event.Assembled assembly.Flat)
    (if_then (eqb n 2) (event.Solved raw.Failed)
    (if_then (eqb n 3) (event.Solved raw.Small)
    (if_then (eqb n 4) (event.Solved (raw.Priced price))
    (if_then (eqb n 5) (event.Solved (raw.Numerical numerical.Retraction))
    (event.Solved (raw.Numerical numerical.Unpriced)))))))

-- the events of a list of numbers, each with the price at its place, or a NaN past the prices' end
unfoldable pub events_of : List ℕ → List Float → List Event
events_of numbers prices = table (λ k. event_of (get_or numbers k 0) (get_or prices k nan)) (length numbers)

-- Budget at the top needs no event
unfoldable pub settled : ℕ → Next → Next
settled limit (next.On s) = if_then (s.fresh && leb limit (iterations s)) (stop s why.Budget) (next.On s)
settled limit (next.Over s e) = next.Over s e

-- One event more. An assembly's is passed over where none is due; before a solve's, an assembly that goes well is implied. What is over stays.
unfoldable pub after_event : ℕ → Float → Next → Event → Next
after_event limit tolerance (next.On s) (event.Assembled a) = if_then s.fresh (after_turn limit tolerance s a raw.Failed) (next.On s)
after_event limit tolerance (next.On s) (event.Solved e) = after_turn limit tolerance s assembly.Steep e
after_event limit tolerance (next.Over s e) v = next.Over s e

-- the events in order
unfoldable pub driven : ℕ → Float → Next → List Event → Next
driven limit tolerance n [] = settled limit n
driven limit tolerance n (v ∷ vs) = driven limit tolerance (after_event limit tolerance (settled limit n) v) vs
