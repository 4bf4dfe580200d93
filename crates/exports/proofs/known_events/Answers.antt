use mathlib.Core.Path.{◌≡◌, refl, ap, ◌∙◌}
use native.Mathlib.Numerals.{add-one}
use native.Mathlib.Omega.{arith}
use lib.ListN.{length}
use Rattle.numbers.specs.Walks.{every}
use Rattle.exports.specs.Exported.{known}
use Rattle.exports.proofs.known_events.Goals as goal

pub loop-event-init : goal.loop-event-init
unfolding every
loop-event-init c = refl

pub loop-event-preserved : goal.loop-event-preserved
unfolding every
loop-event-preserved c = rw (add-one, c.loop-event.invariant)

pub returns : goal.returns
returns c =
    let e : c.loop-event.event-index ≡ length c.args.events.now = omega arith in
    c.loop-event.invariant ∙ ap (known c.args.events.now) e
