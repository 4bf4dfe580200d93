use mathlib.Core.List.{[]}
use Rattle.std.specs.Prelude.{Ok}
use Prim.Native.Nat.{◌/◌}
use lib.ListN.{length}
use native.Mathlib.Omega.{arith}
use mathlib.Core.Path.{refl, sym, ◌∙◌}
use Rattle.numbers.proofs.Question.{handed_on}
use Rattle.numbers.proofs.Searching.{lowest_more, lowest_hit, lowest_end}
use Rattle.checks.specs.Input.{lent_graph}
use Rattle.checks.specs.Table.{edge_faults}
use Rattle.checks.proofs.edge_rows.Goals as goal

pub returns-in_err-edge_says : goal.returns-in_err-edge_says
returns-in_err-edge_says c =
    let a = c.args in
    handed_on _ c.from_residual.ensures.1 ∙ sym c.in_err-edge_says.was
    ∙ lowest_hit (edge_faults (lent_graph a.poses.now a.ends.now a.edges.now [])) (Ok tt) _ c.loop-k.k (length a.ends.now / 2) refl c.loop-k.invariant
    c.edge_says.ensures c.in_err-edge_says.was (omega arith)

pub loop-k-preserved : goal.loop-k-preserved
loop-k-preserved c =
    let a = c.args in
    lowest_more (edge_faults (lent_graph a.poses.now a.ends.now a.edges.now [])) c.loop-k.k c.loop-k.invariant
    (sym c.edge_says.ensures ∙ c.in_ok-edge_says.was)

pub returns : goal.returns
returns c =
    let a = c.args in
    lowest_end (edge_faults (lent_graph a.poses.now a.ends.now a.edges.now [])) (Ok tt) c.loop-k.k (length a.ends.now / 2) refl c.loop-k.invariant (omega arith)
