use Prim.Native.Nat.{◌≤◌, ◌-◌}
use mathlib.Core.Path.{◌≡◌}
use lib.Ieee.{binary32}
use Rattle.numbers.specs.Notation.{◌⊠◌}
use Rattle.numbers.specs.Walks.{sum_of}
use Rattle.additions.specs.Additions.{cell}
use Rattle.additions.proofs.dot.Given as goal

abbrev pub invariant-loop-k : goal.invariant-loop-k
invariant-loop-k l = (l.k ≤ 6) × (l.s ≡ sum_of binary32 (λ q. cell l.a q l.i ⊠ cell l.b q l.j) l.k)

abbrev pub decreases-loop-k : goal.decreases-loop-k
decreases-loop-k l = 6 - l.k
