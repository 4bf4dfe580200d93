use mathlib.Core.Path.{◌≡◌}
use lib.ListN.{length}
use Rattle.numbers.specs.Walks.{each, done}
use Rattle.additions.specs.Additions.{dot_with, add_to}
use Rattle.additions.proofs.accumulate_gradient.Given as goal

abbrev pub invariant-loop-c : goal.invariant-loop-c
invariant-loop-c l = (length l.part ≡ length l.initial.part) × (each (λ k x. add_to x k (dot_with l.j k l.r)) l.c l.initial.part ≡ done l.part)
