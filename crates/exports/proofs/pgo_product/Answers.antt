use mathlib.Core.Path.{refl, sym, ap}
use lib.Dec.{eqb}
use lib.ListN.{length}
use borrow.Author.Tests.{eqb-true}
use Rattle.numbers.proofs.Tests.{and_second}
use Rattle.numbers.proofs.Steps.{passed, turned_away}
use Rattle.exports.specs.Layers.{product_out}
use Rattle.slices.proofs.Laws.{copied_as}
use Rattle.exports.proofs.pgo_product.Goals as goal

pub returns-then-not-fit : goal.returns-then-not-fit
unfolding product_out
returns-then-not-fit c = turned_away _ refl c.if-not-fit.true-raw refl

pub slice_bounds-copy-end : goal.slice_bounds-copy-end
slice_bounds-copy-end c = sym (ap length c.transform_numbers.ensures)

pub returns : goal.returns
unfolding product_out
returns c =
    passed _ refl c.if-not-fit.false-raw
    (rw (
      copied_as _ c.args.out.now c.transform_numbers.ensures
          (eqb-true _ _ (and_second (eqb (length c.args.b.now) 7) _ (and_second (eqb (length c.args.a.now) 7) _ c.if-not-fit.false)))
          c.copy.ensures,
      c.product_of-p.ensures,
      c.transform_from-2.ensures,
      c.transform_from.ensures,
    ))
