use mathlib.Core.Path.{◌≡◌}
use Rattle.additions.specs.Systems.{Same}
use Rattle.numbers.specs.Walks.{each, done}
use Rattle.additions.specs.Additions.{lower_triangle, row_added}
use Rattle.additions.proofs.System.accumulate_hessian.Given as goal

abbrev pub invariant-loop-r : goal.invariant-loop-r
invariant-loop-r l =
    Same l.initial.self l.self
    × (each (row_added lower_triangle l.initial.self.n l.initial.self.dof l.rb l.cb l.jr l.jc) l.r l.initial.self.w.now ≡ done l.self.w.now)
