use native.Mathlib.Omega.{arith}
use mathlib.Core.Path.{refl, sym, ◌∙◌}
use lib.ListN.{take}
use lib.Seq.{length-take-le, take-length}
use borrow.Author.Tests.{ne_eqb}
use Rattle.numbers.proofs.Choices.{left}
use Rattle.exports.specs.Closings.{text_out}
use Rattle.exports.proofs.Closings.{text_few, text_inside, text_count, text_told}
use Rattle.exports.proofs.pgo_float_text.Goals as goal

pub returns-then-out-ne16 : goal.returns-then-out-ne16
unfolding text_out
returns-then-out-ne16 c = left _ (ne_eqb _ _ c.if-out-ne16.true) refl

pub slice_bounds-text-end : goal.slice_bounds-text-end
slice_bounds-text-end c = text_inside c.args.x _ _ c.empty.ensures c.with_float-l.ensures

pub overflow_cast-result : goal.overflow_cast-result
overflow_cast-result c =
    let h = text_few c.args.x _ _ c.empty.ensures c.with_float-l.ensures in
    omega arith

-- the text lies within the buffer, and within what is lent
pub slice_bounds-copy_from_slice-end : goal.slice_bounds-copy_from_slice-end
slice_bounds-copy_from_slice-end c =
    let few = text_few c.args.x _ _ c.empty.ensures c.with_float-l.ensures in
    omega arith

pub slice_bounds-copy_from_slice-end-2 : goal.slice_bounds-copy_from_slice-end-2
slice_bounds-copy_from_slice-end-2 c =
    let few = text_few c.args.x _ _ c.empty.ensures c.with_float-l.ensures in
    sym (length-take-le _ _ (omega arith))

pub slice_bounds-copy_from_slice-end-3 : goal.slice_bounds-copy_from_slice-end-3
slice_bounds-copy_from_slice-end-3 c = text_count c.args.x _ _ c.empty.ensures c.with_float-l.ensures

pub copy_from_slice-requires : goal.copy_from_slice-requires
copy_from_slice-requires c =
    let few = text_few c.args.x _ _ c.empty.ensures c.with_float-l.ensures in
    length-take-le _ _ (omega arith) ∙ text_count c.args.x _ _ c.empty.ensures c.with_float-l.ensures

pub returns : goal.returns
returns c =
    let l = c.with_float-l.result in
    let s = take l.used l.bytes in
    let n = text_count c.args.x _ _ c.empty.ensures c.with_float-l.ensures in
    text_told c.args.x _ _ c.empty.ensures c.with_float-l.ensures c.args.out.now c.if-out-ne16.false
    (rw (c.copy_from_slice.ensures.after, take-length s, ← n) refl)
