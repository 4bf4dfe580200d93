use Rattle.slices.proofs.Laws.{CopiedTo}
use Rattle.slices.proofs.copy.Given as goal

abbrev pub invariant-loop-i : goal.invariant-loop-i
invariant-loop-i g l = CopiedTo l.from l.initial.to l.to l.i
