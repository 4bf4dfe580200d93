use mathlib.Core.Path.{refl, sym, ap}
use lib.Dec.{eqb}
use lib.ListN.{length}
use borrow.Author.Tests.{eqb-true}
use Rattle.numbers.proofs.Tests.{and_second}
use Rattle.numbers.proofs.Steps.{passed, turned_away}
use Rattle.exports.specs.Layers.{quaternion_out}
use Rattle.slices.proofs.Laws.{copied_as}
use Rattle.exports.proofs.pgo_quaternion_of_matrix.Goals as goal

pub returns-then-not-m-out : goal.returns-then-not-m-out
unfolding quaternion_out
returns-then-not-m-out c = turned_away _ refl c.if-not-m-out.true-raw refl

pub slice_bounds-copy-end : goal.slice_bounds-copy-end
slice_bounds-copy-end c = sym (ap length c.quat_numbers.ensures)

pub returns : goal.returns
unfolding quaternion_out
returns c =
    passed _ refl c.if-not-m-out.false-raw
    (rw (
      copied_as _ c.args.out.now c.quat_numbers.ensures
          (eqb-true _ _ (and_second (eqb (length c.args.m.now) 9) _ c.if-not-m-out.false)) c.copy.ensures,
      c.quat_of_matrix-q.ensures,
      c.matrix_from.ensures,
    ))
