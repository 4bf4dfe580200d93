use mathlib.Core.Path.{sym, ap, ◌∙◌}
use lib.ListN.{length}
use Rattle.exports.proofs.Telling.{eight_long, told_joined, told_refused}
use Rattle.exports.proofs.put_answer.Goals as goal

pub slice_bounds-copy-end : goal.slice_bounds-copy-end
slice_bounds-copy-end c = sym (ap length c.answer_eight.ensures ∙ eight_long c.args.a)

pub slice_bounds-copy-end-in-Ok : goal.slice_bounds-copy-end-in-Ok
slice_bounds-copy-end-in-Ok c = sym (ap length c.joined_costs.ensures)

pub returns-in-Ok : goal.returns-in-Ok
returns-in-Ok c =
    told_joined c.args.a c.args.answer.now c.args.costs.now c.requires.0 c.answer_eight.ensures
    c.copy.ensures
    c.in-Ok.is c.requires.1 c.joined_costs.ensures c.copy-in-Ok.ensures

pub returns-in-Err : goal.returns-in-Err
returns-in-Err c =
    told_refused c.args.a c.args.answer.now c.args.costs.now c.requires.0 c.answer_eight.ensures
    c.copy.ensures c.in-Err.is
