-- Invariant: the trial's poses below p stand behind the accepted ones, and whether their retractions went well.
use lib.ListN.{get_or}
use lib.Ieee.{nan}
use Rattle.graph.specs.Lent.{links_lent}
use Rattle.trials.proofs.Poses.{Tried}
use Rattle.trials.proofs.retract_free.Given as goal

abbrev pub invariant-loop-p : goal.invariant-loop-p
invariant-loop-p l = Tried l.m (links_lent l.links).slot (λ i. get_or l.step i nan) l.initial.w l.w l.well l.p
