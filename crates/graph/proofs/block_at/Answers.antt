use mathlib.Core.Path.{sym}
use lib.ListN.{get_or-eq_default}
use Rattle.graph.specs.Lent.{none}
use Rattle.numbers.proofs.Filling.{get_d_within}
use Rattle.graph.proofs.block_at.Goals as goal

pub returns-then-x-blocks : goal.returns-then-x-blocks
returns-then-x-blocks c = let a = c.args in get_d_within a.blocks.now a.x 0 none c.if-x-blocks.true

pub returns-else-x-blocks : goal.returns-else-x-blocks
returns-else-x-blocks c = sym (get_or-eq_default c.args.blocks.now none c.if-x-blocks.false)
