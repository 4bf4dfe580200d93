-- `scans::loop_34` meets its contract: either keyframe is absent. Assumes nothing.
use Rattle.std.specs.Prelude.{Bool, ◌||◌}
use mathlib.Core.Path.{◌≡◌, refl, ap, ◌∙◌}
use Rattle.numbers.specs.Refusals.{ask}
use Rattle.scans.specs.Scans.{candidate_node, query_node}
use Rattle.scans.specs.ScanRows.{is_absent}
use Rattle.scans.proofs.Nodes.{absent_test}
use Rattle.scans.proofs.loop_34.Goals as goal
use Rattle.scans.proofs.loop_34.Goals.{then-is_none, else-is_none}

pub returns : goal.returns
returns c =
    let a = c.args in
    let x : c.is_none.result ≡ is_absent (candidate_node a.ids.now a.loops.now a.k) =
    absent_test _ _ c.is_none.ensures ∙ ap is_absent c.loop_nodes-candidate.ensures.0 in
    let e : c.if-is_none.ask ≡ (is_absent (candidate_node a.ids.now a.loops.now a.k) || is_absent (query_node a.ids.now a.loops.now a.k)) =
    (elim c.if-is_none.branch [
      | then-is_none w ↦ w.ask-is ∙ (rw (← x, w.if-is_none.true) refl)
      | else-is_none w ↦ w.ask-is ∙ absent_test _ _ w.is_none-else-is_none.ensures ∙ ap is_absent c.loop_nodes-candidate.ensures.1
          ∙ (rw (← x, w.if-is_none.false) refl)
    ]) in
    c.ask.ensures ∙ ap (λ (b : Bool). ask b 34 a.k) e
