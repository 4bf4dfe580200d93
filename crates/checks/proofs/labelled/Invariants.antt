use mathlib.Core.List.{[]}
use Rattle.checks.specs.Input.{lent_graph}
use Rattle.checks.specs.Labels.{label_of, Merges}
use Rattle.checks.proofs.labelled.Given as goal

abbrev pub invariant-loop-k : goal.invariant-loop-k
invariant-loop-k l = Merges (lent_graph [] l.ends l.edges []) l.k (label_of l.initial.labels) (label_of l.labels)
