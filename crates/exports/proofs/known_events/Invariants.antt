use mathlib.Core.Path.{◌≡◌}
use Rattle.exports.specs.Exported.{known}
use Rattle.exports.proofs.known_events.Given as goal

abbrev pub invariant-loop-event : goal.invariant-loop-event
invariant-loop-event l = l.good ≡ known l.events l.event-index
