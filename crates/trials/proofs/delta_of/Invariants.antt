-- Invariant: the first j numbers of the block are laid over +0.
use Prim.Native.Nat.{◌+◌, ◌*◌}
use lib.ListN.{get_or}
use lib.Ieee.{nan}
use Rattle.numbers.proofs.Laying.{Laid}
use Rattle.trials.proofs.delta_of.Given as goal

abbrev pub invariant-loop-j : goal.invariant-loop-j
invariant-loop-j l = Laid nan (λ k. get_or l.step (l.b * l.dof + k) nan) 0 l.initial.delta l.delta l.j
