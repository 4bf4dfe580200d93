use Rattle.assembly.proofs.Edges.{bad_edge, all_edges}
use Rattle.additions.proofs.Ends.{answered}
use Rattle.numbers.proofs.Walking.{each_none, each_more}
use native.Mathlib.Omega.{arith}
use mathlib.Core.Path.{refl}
use Rattle.assembly.proofs.add_edges.Goals as goal

pub loop-k-init : goal.loop-k-init
loop-k-init c = (omega arith, refl, each_none _ _)

pub add_edge-requires : goal.add_edge-requires
add_edge-requires c = (c.requires.0, omega arith, omega arith)

pub returns-in-Err : goal.returns-in-Err
returns-in-Err c = bad_edge _ _ c.loop-k.k _ c.loop-k.invariant.2 c.add_edge.ensures c.in-Err.is c.loop-k-test.true

pub loop-k-preserved : goal.loop-k-preserved
loop-k-preserved c = (
  omega arith,
  omega arith,
  each_more _ _ _ c.loop-k.invariant.2
      (answered c.add_edge.ensures c.in_default.is),
)

pub returns : goal.returns
returns c = all_edges _ _ c.loop-k.k _ c.loop-k.invariant.2 (omega arith)
