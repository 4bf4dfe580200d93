use Rattle.checks.proofs.Labelling.{Renaming}
use Rattle.checks.proofs.relabel.Given as goal

abbrev pub invariant-loop-label : goal.invariant-loop-label
invariant-loop-label l = Renaming l.old l.new l.initial.labels l.labels l.label-index
