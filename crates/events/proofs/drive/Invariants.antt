-- The loop keeps that the run over all events is the run from here over the events that are left.
use mathlib.Core.Path.{◌≡◌}
use lib.ListN.{drop}
use Rattle.decisions.specs.Run.{begun}
use Rattle.events.specs.Driven.{driven, events_of}
use Rattle.decisions.specs.declared.Next.TheVariants as next
use Rattle.events.proofs.drive.Given as goal

abbrev pub invariant-loop-i : goal.invariant-loop-i
invariant-loop-i l =
    driven l.limit l.tolerance (next.On (begun l.cost l.damping)) (events_of l.events l.prices) ≡ driven l.limit l.tolerance l.n (drop l.i (events_of l.events l.prices))
