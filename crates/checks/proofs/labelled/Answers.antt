use Prim.Native.Nat.{ℕ, ◌+◌, ◌/◌}
use native.Mathlib.Omega.{arith}
use mathlib.Core.Path.{◌≡◌, sym, subst, ◌∙◌}
use mathlib.Core.List.{List, []}
use lib.ListN.{length}
use Rattle.checks.specs.Input.{lent_graph}
use Rattle.checks.specs.Islands.{weighs}
use Rattle.checks.specs.Labels.{label_of, Merges}
use Rattle.checks.proofs.Labelling.{merge_none, merge_more, merge_skip}
use Rattle.checks.proofs.labelled.Goals as goal
use Rattle.checks.proofs.labelled.Goals.{else-has_weight, then-has_weight}

pub loop-k-init : goal.loop-k-init
loop-k-init c = merge_none _ _

pub loop-k-preserved : goal.loop-k-preserved
unfolding weighs
loop-k-preserved c =
    let a = c.args in
    let g = lent_graph [] a.ends.now a.edges.now [] in
    (elim c.if-has_weight.branch [
      | then-has_weight w ↦ subst (λ (m : List ℕ). Merges g (c.loop-k.k + 1) (label_of a.start) (label_of m)) (sym w.labels-is)
          (merge_more g (label_of a.start) c.loop-k.k (label_of c.loop-k.labels) (label_of w.merge_labels.new.labels) c.loop-k.invariant
          (sym c.has_weight.ensures ∙ w.if-has_weight.true) (rw (w.ends_at-a.ensures.0, w.ends_at-a.ensures.1) at w.merge_labels.ensures))
      | else-has_weight w ↦ subst (λ (m : List ℕ). Merges g (c.loop-k.k + 1) (label_of a.start) (label_of m)) (sym w.labels-is)
          (merge_skip g (label_of a.start) c.loop-k.k (label_of c.loop-k.labels) c.loop-k.invariant (sym c.has_weight.ensures ∙ w.if-has_weight.false))
    ])

pub returns : goal.returns
returns c =
    let a = c.args in
    let e : c.loop-k.k ≡ length a.ends.now / 2 = omega arith in
    subst (λ (m : ℕ). Merges (lent_graph [] a.ends.now a.edges.now []) m (label_of a.start) (label_of c.loop-k.labels)) e c.loop-k.invariant
