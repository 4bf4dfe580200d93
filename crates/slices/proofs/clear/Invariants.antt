use Rattle.numbers.proofs.Laying.{Laid}
use Rattle.slices.proofs.clear.Given as goal

abbrev pub invariant-loop-x : goal.invariant-loop-x
invariant-loop-x g l = Laid g.T.Zero.zero (λ _. g.T.Zero.zero) 0 l.initial.w l.w l.x-index
