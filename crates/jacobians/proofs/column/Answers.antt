use native.Mathlib.Omega.{arith}
use Rattle.jacobians.proofs.SideBySide.{column_shared_lem}
use Rattle.jacobians.proofs.column.Goals as goal

pub stowed_at-ahead-requires : goal.stowed_at-ahead-requires
stowed_at-ahead-requires c = let n = c.requires.2 in omega arith

pub stowed_at-behind-requires : goal.stowed_at-behind-requires
stowed_at-behind-requires c = let n = c.requires.2 in omega arith

pub returns : goal.returns
returns c =
    let a = c.args in
    column_shared_lem a.l a.end a.shift a.c c.stowed_at-ahead.ensures c.stowed_at-behind.ensures
    c.widened-a.ensures c.widened-b.ensures c.hinges_along-hinges.ensures c.residuals_at.ensures c.column_by.ensures
