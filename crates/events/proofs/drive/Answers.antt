use mathlib.Core.Path.{sym, ◌∙◌}
use Rattle.events.proofs.Lists.{driven_more, driven_end}
use Rattle.events.proofs.drive.Goals as goal

pub loop-i-init : goal.loop-i-init
loop-i-init c = simp c.begin.ensures

pub loop-i-preserved : goal.loop-i-preserved
loop-i-preserved c =
    c.loop-i.invariant
    ∙ driven_more _ _ _ _ _ _ c.loop-i-test.true
    ∙ simp (c.after_event-n.ensures, c.settle.ensures, c.event_of-v.ensures, c.at.ensures)

pub returns : goal.returns
returns c = c.settle-2.ensures ∙ sym (c.loop-i.invariant ∙ driven_end _ _ _ _ _ _ c.loop-i-test.false)
