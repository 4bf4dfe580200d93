use Prim.Native.Nat.{ℕ, ◌+◌, ◌<◌}
use native.Mathlib.Omega.{arith}
use mathlib.Core.Path.{sym, subst}
use mathlib.Core.List.{List}
use lib.ListN.{length}
use Rattle.std.proofs.lemmas.List.{set-get_or}
use Rattle.checks.proofs.Labelling.{Renaming, rename_none, rename_store, rename_keep}
use Rattle.checks.proofs.relabel.Goals as goal
use Rattle.checks.proofs.relabel.Goals.{else-label-old, then-label-old}

pub loop-label-init : goal.loop-label-init
loop-label-init c = rename_none c.args.old c.args.new c.args.labels.now

pub loop-label-preserved : goal.loop-label-preserved
loop-label-preserved c =
    let a = c.args in
    let x = c.loop-label.label-index in
    let h : x < length c.loop-label.labels = omega arith in
    (elim c.if-label-old.branch [
      | then-label-old w ↦ subst (λ (m : List ℕ). Renaming a.old a.new a.labels.now m (x + 1)) (sym w.labels-is)
          (rename_store a.old a.new a.labels.now _ _ c.loop-label.invariant h w.if-label-old.true)
      | else-label-old w ↦ subst (λ (m : List ℕ). Renaming a.old a.new a.labels.now m (x + 1)) (sym w.labels-is)
          (rw (set-get_or c.loop-label.labels x 0) (rename_keep a.old a.new a.labels.now _ _ c.loop-label.invariant h w.if-label-old.false))
    ])

pub returns : goal.returns
returns c = λ x h. c.loop-label.invariant.done x (let z = c.loop-label.invariant.size in omega arith)
