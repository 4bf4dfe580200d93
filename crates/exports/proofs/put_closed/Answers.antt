use mathlib.Core.Path.{sym, ap, ◌∙◌}
use lib.ListN.{length}
use Rattle.exports.proofs.Closings.{nine_long, closed_ran, closed_refused}
use Rattle.exports.proofs.put_closed.Goals as goal

pub slice_bounds-copy-end : goal.slice_bounds-copy-end
slice_bounds-copy-end c = sym (ap length c.nine_of.ensures ∙ nine_long c.args.c)

pub slice_bounds-copy-end-in-Ok : goal.slice_bounds-copy-end-in-Ok
slice_bounds-copy-end-in-Ok c = sym (ap length c.joined_costs.ensures)

pub slice_bounds-copy-end-in-Ok-2 : goal.slice_bounds-copy-end-in-Ok-2
slice_bounds-copy-end-in-Ok-2 c = sym (ap length c.measures_four.ensures)

pub returns-in-Ok : goal.returns-in-Ok
returns-in-Ok c =
    let a = c.args in
    closed_ran c.args.c a.answer.now a.costs.now a.measures.now c.requires.0 c.nine_of.ensures
    c.copy.ensures c.in-Ok.is
    c.requires.1 c.joined_costs.ensures c.copy-in-Ok.ensures c.requires.2 c.measures_four.ensures
    c.copy-in-Ok-2.ensures

pub returns-in-Err : goal.returns-in-Err
returns-in-Err c =
    let a = c.args in
    closed_refused c.args.c a.answer.now a.costs.now a.measures.now c.requires.0 c.nine_of.ensures
    c.copy.ensures c.in-Err.is
