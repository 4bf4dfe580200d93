use native.Mathlib.Omega.{arith}
use mathlib.Core.Path.{refl}
use Rattle.scans.proofs.Nodes.{below_hit, below_less, below_none}
use Rattle.scans.proofs.node_of.Goals as goal

pub returns-then-ids-k : goal.returns-then-ids-k
returns-then-ids-k c = below_hit c.args.ids.now c.args.id c.loop-k.k (omega arith) c.loop-k.invariant refl c.if-ids-k.true

pub loop-k-preserved : goal.loop-k-preserved
loop-k-preserved c = below_less c.args.ids.now c.args.id c.loop-k.k (omega arith) c.loop-k.invariant refl c.if-ids-k.false

pub returns : goal.returns
returns c = below_none c.args.ids.now c.args.id c.loop-k.k c.loop-k.invariant (omega arith)
