use mathlib.Core.Path.{◌∙◌, sym}
use mathlib.Core.List.{◌++◌}
use Prim.Native.Nat.{◌*◌}
use lib.ListN.{drop}
use lib.Seq.{length-take-le}
use Rattle.graph.specs.Lent.{links_lent}
use Rattle.sparse_pgo.proofs.Sizes.{half_fits, half_within}
use Rattle.sparse_pgo.proofs.Running.{CopiedIn, copied_in, in_lent, begun_joined, begun_refused}
use Rattle.sparse_pgo.proofs.begun.Goals as goal
use Rattle.sparse_pgo.proofs.begun.Goals.{in-Ok, in_default}

pub overflow_mul-half : goal.overflow_mul-half
overflow_mul-half c = half_fits c.requires.lent.0.sized

pub slice_bounds-copy-end : goal.slice_bounds-copy-end
slice_bounds-copy-end c = half_within _ _ c.requires.lent.0.double

pub slice_bounds-copy-end-2 : goal.slice_bounds-copy-end-2
slice_bounds-copy-end-2 c = sym (length-take-le _ _ (half_within _ _ c.requires.lent.0.double))

pub started-a-requires : goal.started-a-requires
started-a-requires c =
    let copied : let a = c.args in CopiedIn a.setup a.poses.now a.w64.now (c.copy.new.to ++ drop (a.setup.poses * 12) a.w64.now) = let p = c.requires in copied_in _ _ _ _ p.lent.0.double p.poses_len.0 c.copy.ensures in
    (in_lent (copied) c.requires.lent.0, c.requires.lent.1)

pub slice_bounds-copy-end-in-Ok : goal.slice_bounds-copy-end-in-Ok
slice_bounds-copy-end-in-Ok c =
    let copied : let a = c.args in CopiedIn a.setup a.poses.now a.w64.now (c.copy.new.to ++ drop (a.setup.poses * 12) a.w64.now) = let p = c.requires in copied_in _ _ _ _ p.lent.0.double p.poses_len.0 c.copy.ensures in
    half_within _ _ (c.started-a.auto.w64 ∙ (copied).long ∙ c.requires.lent.0.double)

pub slice_bounds-copy-end-in-Ok-2 : goal.slice_bounds-copy-end-in-Ok-2
slice_bounds-copy-end-in-Ok-2 c =
    let copied : let a = c.args in CopiedIn a.setup a.poses.now a.w64.now (c.copy.new.to ++ drop (a.setup.poses * 12) a.w64.now) = let p = c.requires in copied_in _ _ _ _ p.lent.0.double p.poses_len.0 c.copy.ensures in
    sym (length-take-le _ _ (half_within _ _ (c.started-a.auto.w64 ∙ (copied).long ∙ c.requires.lent.0.double)))

pub returns : goal.returns
returns c =
    let copied : let a = c.args in CopiedIn a.setup a.poses.now a.w64.now (c.copy.new.to ++ drop (a.setup.poses * 12) a.w64.now) = let p = c.requires in copied_in _ _ _ _ p.lent.0.double p.poses_len.0 c.copy.ensures in
    let l32 = c.started-a.auto.w32 in
    let z32 = c.clear.ensures in
    let z64 = c.clear-2.ensures in
    let h = copied in
    let p = c.requires in
    let a = c.args in
    let l = links_lent a.links in
    let k = p.poses_len.1 ∙ p.poses_len.0 ∙ sym (length-take-le _ _ (half_within _ _ (c.started-a.auto.w64 ∙ (copied).long ∙ c.requires.lent.0.double))) in
    elim c.match-a.branch [
      | in-Ok w ↦ begun_joined h {l = l} c.started-a.ensures c.started-a.auto.w64 _ c.started-a.new.w32 _ _ _ l32 z32 z64 _ _ w.in-Ok.is k (w.out-is ∙ w.copy-in-Ok.ensures)
      | in_default w ↦ begun_refused h {l = l} c.started-a.ensures c.started-a.auto.w64 _ c.started-a.new.w32 _ _ _ l32 z32 z64 _ _ w.in_default.is w.out-is
    ]
