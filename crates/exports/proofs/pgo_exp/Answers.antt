use mathlib.Core.Path.{◌≡◌, refl, sym, ap, ◌∙◌}
use lib.Dec.{eqb}
use lib.ListN.{length}
use borrow.Author.Tests.{eqb-true}
use Rattle.numbers.proofs.Tests.{and_second}
use Rattle.rotations.specs.Rotation.{vec}
use Rattle.exp_log.specs.ExpLog.{exp_of}
use Rattle.numbers.proofs.Steps.{passed, turned_away}
use Rattle.numbers.specs.Notation.{number_at}
use Rattle.exports.specs.Layers.{three, moved_out, exp_out}
use Rattle.slices.proofs.Laws.{copied_as}
use Rattle.exports.proofs.pgo_exp.Goals as goal

pub returns-then-not-delta-out : goal.returns-then-not-delta-out
unfolding exp_out
returns-then-not-delta-out c = turned_away _ refl c.if-not-delta-out.true-raw refl

pub returns-in_default : goal.returns-in_default
unfolding exp_out
returns-in_default c =
    let found : (let a = c.args in c.exp.result ≡ exp_of (three a.delta.now) (vec (number_at a.delta.now 3) (number_at a.delta.now 4) (number_at a.delta.now 5))) = c.exp.ensures ∙ rw (c.widened_from-2.ensures, c.widened_from.ensures) in
    passed _ refl c.if-not-delta-out.false-raw (ap (moved_out c.args.out.now) (sym c.in_default.is ∙ found))

pub slice_bounds-copy-end : goal.slice_bounds-copy-end
slice_bounds-copy-end c = sym (ap length c.transform_numbers.ensures)

pub returns : goal.returns
unfolding exp_out
returns c =
    let found : (let a = c.args in c.exp.result ≡ exp_of (three a.delta.now) (vec (number_at a.delta.now 3) (number_at a.delta.now 4) (number_at a.delta.now 5))) = c.exp.ensures ∙ rw (c.widened_from-2.ensures, c.widened_from.ensures) in
    passed _ refl c.if-not-delta-out.false-raw
    (rw (copied_as _ c.args.out.now c.transform_numbers.ensures
    (eqb-true _ _ (and_second (eqb (length c.args.delta.now) 6) _ c.if-not-delta-out.false)) c.copy.ensures)
    (ap (moved_out c.args.out.now) (sym c.in-Some.is ∙ found)))
