use mathlib.Core.Path.{refl, sym, ap, ◌∙◌}
use lib.ListN.{length}
use borrow.Author.Tests.{ne_eqb}
use Rattle.numbers.proofs.Choices.{left}
use Rattle.exports.specs.Jobs.{write_out}
use Rattle.exports.proofs.Jobs.{written_long, written_told}
use Rattle.exports.proofs.pgo_write_job.Goals as goal

pub returns-then-answer-ne2 : goal.returns-then-answer-ne2
unfolding write_out
returns-then-answer-ne2 c = left _ (ne_eqb _ _ c.if-answer-ne2.true) refl

pub slice_bounds-copy-end : goal.slice_bounds-copy-end
slice_bounds-copy-end c = sym (ap length c.written_two.ensures ∙ written_long c.write_job-v.result)

pub returns : goal.returns
returns c =
    written_told _ _ _ c.if-answer-ne2.false c.write_job-v.ensures c.written_two.ensures c.copy.ensures
    c.written_number.ensures
