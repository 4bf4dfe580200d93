use Prim.Native.Nat.{◌*◌, ◌≤◌}
use native.Mathlib.Nat.{mul-le-mul}
use native.Mathlib.Omega.{arith}
use Rattle.std.specs.Prelude.{[]}
use mathlib.Core.Path.{sym, ◌∙◌}
use lib.ListN.{take}
use Rattle.numbers.specs.Refusals.{verdict}
use Rattle.numbers.proofs.Question.{handed_on}
use Rattle.numbers.proofs.Walking.{count_at_most}
use Rattle.graph.specs.Graph.{is_free}
use Rattle.graph.proofs.Degrees.{dof_most}
use Rattle.checks.specs.Input.{lent_graph, lent, unset}
use Rattle.checks.specs.Table.{graph_rows}
use Rattle.checks.proofs.Answers.{said_12, said_13, said_early, answer_26, answer_14, graph_answered}
use Rattle.checks.proofs.graph_answer.Goals as goal

pub overflow_mul-dof : goal.overflow_mul-dof
overflow_mul-dof c =
    let a = c.args in
    let d = dof_most a.manifold in
    let f = count_at_most (is_free (lent_graph [] a.ends.now [] a.fixed.now)) 256 in
    let h : c.dof.result * a.numbered.free ≤ 6 * 256 = rw (c.dof.ensures, c.requires.1) (mul-le-mul d f) in
    omega arith

pub returns-in_err-row_12 : goal.returns-in_err-row_12
returns-in_err-row_12 c =
    let a = c.args in
    let i = lent a.manifold a.poses.now a.ends.now a.edges.now a.fixed.now unset a.room in
    handed_on _ c.from_residual-in_err-row_12.ensures.1
    ∙ said_early i a.numbered.free a.numbered.at c.requires
    (said_12 _ a.numbered.free (sym c.list_rows.ensures ∙ c.in_ok-list_rows.was) (sym c.row_12.ensures ∙ c.in_err-row_12.was))

pub returns-in_err-row_13 : goal.returns-in_err-row_13
returns-in_err-row_13 c =
    let a = c.args in
    let i = lent a.manifold a.poses.now a.ends.now a.edges.now a.fixed.now unset a.room in
    handed_on _ c.from_residual-in_err-row_13.ensures.1
    ∙ said_early i a.numbered.free a.numbered.at c.requires
    (said_13 _ a.numbered.free (sym c.list_rows.ensures ∙ c.in_ok-list_rows.was) (sym c.row_12.ensures ∙ c.in_ok-row_12.was)
    (sym c.row_13.ensures ∙ c.in_err-row_13.was))

pub returns-in_err-island_rows : goal.returns-in_err-island_rows
returns-in_err-island_rows c =
    let a = c.args in
    let i = lent a.manifold a.poses.now a.ends.now a.edges.now a.fixed.now unset a.room in
    let v = verdict (take 8 (graph_rows i)) in
    let s = said_13 v a.numbered.free (sym c.list_rows.ensures ∙ c.in_ok-list_rows.was) (sym c.row_12.ensures ∙ c.in_ok-row_12.was)
    (sym c.row_13.ensures ∙ c.in_ok-row_13.was) in
    handed_on _ c.from_residual-in_err-island_rows.ensures.1
    ∙ sym (answer_26 i v a.numbered.free _ s (sym c.island_rows.ensures ∙ c.in_err-island_rows.was))
    ∙ graph_answered i a.numbered.free a.numbered.at _ c.requires (λ _. c.labelled-labels.ensures)

pub returns-in_err-row_14 : goal.returns-in_err-row_14
returns-in_err-row_14 c =
    let a = c.args in
    let i = lent a.manifold a.poses.now a.ends.now a.edges.now a.fixed.now unset a.room in
    let v = verdict (take 8 (graph_rows i)) in
    let s = said_13 v a.numbered.free (sym c.list_rows.ensures ∙ c.in_ok-list_rows.was) (sym c.row_12.ensures ∙ c.in_ok-row_12.was)
    (sym c.row_13.ensures ∙ c.in_ok-row_13.was) in
    handed_on _ c.from_residual-in_err-row_14.ensures.1
    ∙ sym (answer_14 i v a.numbered.free _ s (sym c.island_rows.ensures ∙ c.in_ok-island_rows.was)
    (sym (rw c.dof.ensures at c.row_14.ensures) ∙ c.in_err-row_14.was))
    ∙ graph_answered i a.numbered.free a.numbered.at _ c.requires (λ _. c.labelled-labels.ensures)

pub returns : goal.returns
returns c =
    let a = c.args in
    let i = lent a.manifold a.poses.now a.ends.now a.edges.now a.fixed.now unset a.room in
    let v = verdict (take 8 (graph_rows i)) in
    let s = said_13 v a.numbered.free (sym c.list_rows.ensures ∙ c.in_ok-list_rows.was) (sym c.row_12.ensures ∙ c.in_ok-row_12.was)
    (sym c.row_13.ensures ∙ c.in_ok-row_13.was) in
    sym (answer_14 i v a.numbered.free _ s (sym c.island_rows.ensures ∙ c.in_ok-island_rows.was)
    (sym (rw c.dof.ensures at c.row_14.ensures) ∙ c.in_ok-row_14.was))
    ∙ graph_answered i a.numbered.free a.numbered.at _ c.requires (λ _. c.labelled-labels.ensures)
