-- Invariant: what is left of the run from the state s on is the whole run.
use Rattle.decisions.proofs.Going.{turns_left}
use Rattle.graph.specs.Lent.{links_lent}
use Rattle.sparse_pgo.proofs.Looping.{Turning}
use Rattle.sparse_pgo.proofs.started.Given as goal

abbrev pub invariant-loop-t : goal.invariant-loop-t
invariant-loop-t l = Turning l.setup l.links.free (links_lent l.links) l.first l.initial.w64 l.w32 l.w64 l.s

abbrev pub decreases-loop-t : goal.decreases-loop-t
decreases-loop-t l = turns_left l.setup.settings.limit l.s
