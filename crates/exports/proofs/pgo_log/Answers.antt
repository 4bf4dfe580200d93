use mathlib.Core.Path.{refl, sym, ap}
use lib.Dec.{eqb}
use lib.ListN.{length}
use borrow.Author.Tests.{eqb-true}
use Rattle.numbers.proofs.Tests.{and_second}
use Rattle.numbers.proofs.Steps.{passed, turned_away}
use Rattle.exports.specs.Layers.{log_out}
use Rattle.slices.proofs.Laws.{copied_as}
use Rattle.exports.proofs.pgo_log.Goals as goal

pub returns-then-not-t-out : goal.returns-then-not-t-out
unfolding log_out
returns-then-not-t-out c = turned_away _ refl c.if-not-t-out.true-raw refl

pub slice_bounds-copy-end : goal.slice_bounds-copy-end
slice_bounds-copy-end c = sym (ap length c.six_of.ensures)

pub returns : goal.returns
unfolding log_out
returns c =
    passed _ refl c.if-not-t-out.false-raw
    (rw (
      copied_as _ c.args.out.now c.six_of.ensures
          (eqb-true _ _ (and_second (eqb (length c.args.t.now) 7) _ c.if-not-t-out.false)) c.copy.ensures,
      c.log-d.ensures,
      c.transform_from.ensures,
    ))
