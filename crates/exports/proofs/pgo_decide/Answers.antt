use mathlib.Core.Path.{refl, sym, ap, ◌∙◌}
use lib.Ieee.{of_bits}
use lib.ListN.{length}
use Rattle.numbers.specs.Notation.{ratio}
use Rattle.numbers.proofs.Steps.{passed, turned_away}
use Rattle.exports.specs.Exported.{decided_as, decided}
use Rattle.exports.proofs.Telling.{fit_decide}
use Rattle.exports.proofs.pgo_decide.Goals as goal

pub returns-then-not-decide_fits : goal.returns-then-not-decide_fits
unfolding decided
returns-then-not-decide_fits c = turned_away _ c.decide_fits.ensures c.if-not-decide_fits.true-raw refl

pub returns-in_default : goal.returns-in_default
unfolding decided ratio of_bits
returns-in_default c =
    passed _ c.decide_fits.ensures c.if-not-decide_fits.false-raw
    (ap (decided_as c.args.answer.now c.args.costs.now) (sym c.in_default.is ∙ c.decide.ensures))

pub put_answer-requires : goal.put_answer-requires
put_answer-requires c =
    let a = c.args in
    fit_decide (length a.answer.now) (length a.costs.now) a.events.now a.prices.now
    (sym c.decide_fits.ensures ∙ c.if-not-decide_fits.false)

pub returns : goal.returns
unfolding decided ratio of_bits
returns c =
    passed _ c.decide_fits.ensures c.if-not-decide_fits.false-raw
    (c.put_answer.ensures ∙ ap (decided_as c.args.answer.now c.args.costs.now)
    (sym c.in-Some.is ∙ c.decide.ensures))
