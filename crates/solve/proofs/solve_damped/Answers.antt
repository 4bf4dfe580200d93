use mathlib.Core.Path.{sym, ap, ◌∙◌}
use mathlib.Core.Logic.{inl, inr}
use mathlib.Core.Bool.{not}
use Prim.Native.Nat.{◌≤◌}
use borrow.Author.Rules.{rules}
use borrow.Author.Tests.{leb-true, leb-false}
use lib.ListN.{length}
use Rattle.profile.specs.Layout.{need}
use Rattle.solve.proofs.Close.{short, ended}
use Rattle.solve.proofs.solve_damped.Goals as goal
use Rattle.solve.proofs.solve_damped.Goals.{then-is_none, else-is_none}

pub returns-then-not-has_room : goal.returns-then-not-has_room
returns-then-not-has_room c = short _ _ _ (leb-false _ _ (sym c.has_room.ensures ∙ c.if-not-has_room.true))

pub returns : goal.returns
returns c =
    let a = c.args in
    let v = c.solve_lent-step in
    let room : need a.n ≤ length a.w.now = leb-true _ _ (sym c.has_room.ensures ∙ c.if-not-has_room.false) in
    rw c.ok_or.ensures.value
    (ended a.w.now c.clear_lower.new.w v.new.w a.n c.starts-f.result a.damping v.result room c.clear_lower.ensures c.starts-f.ensures
    (search rules) v.ensures c.if-is_none.w c.clear_lower-2.new.w c.clear_lower-2.ensures
    (elim c.if-is_none.branch [
      | then-is_none s ↦ inr (c.is_none.ensures ∙ ap not s.if-is_none.true, s.w-is ∙ s.clear.ensures)
      | else-is_none s ↦ inl (c.is_none.ensures ∙ ap not s.if-is_none.false, s.w-is)
    ]))
