use Prim.Native.Nat.{◌+◌, ◌*◌}
use mathlib.Core.Path.{◌≡◌}
use Rattle.additions.specs.Systems.{Same}
use Rattle.numbers.specs.Walks.{each, done}
use Rattle.additions.specs.Additions.{lower_triangle, entry_added}
use Rattle.additions.proofs.System.accumulate_row.Given as goal

abbrev pub invariant-loop-c : goal.invariant-loop-c
invariant-loop-c l =
    let s = l.initial.self in
    Same s l.self
    × (each (λ k. entry_added lower_triangle s.n (l.rb * s.dof + l.r) (l.cb * s.dof + k) l.jr l.r l.jc k) l.c s.w.now ≡ done l.self.w.now)
