use mathlib.Core.Path.{refl, sym, ap}
use lib.Dec.{eqb}
use lib.ListN.{length}
use borrow.Author.Tests.{eqb-true}
use Rattle.numbers.proofs.Tests.{and_second}
use Rattle.numbers.proofs.Steps.{passed, turned_away}
use Rattle.exports.specs.Layers.{inverse_out}
use Rattle.slices.proofs.Laws.{copied_as}
use Rattle.exports.proofs.pgo_inverse.Goals as goal

pub returns-then-not-a-out : goal.returns-then-not-a-out
unfolding inverse_out
returns-then-not-a-out c = turned_away _ refl c.if-not-a-out.true-raw refl

pub slice_bounds-copy-end : goal.slice_bounds-copy-end
slice_bounds-copy-end c = sym (ap length c.transform_numbers.ensures)

pub returns : goal.returns
unfolding inverse_out
returns c =
    passed _ refl c.if-not-a-out.false-raw
    (rw (
      copied_as _ c.args.out.now c.transform_numbers.ensures
          (eqb-true _ _ (and_second (eqb (length c.args.a.now) 7) _ c.if-not-a-out.false)) c.copy.ensures,
      c.inverse_of-p.ensures,
      c.transform_from.ensures,
    ))
