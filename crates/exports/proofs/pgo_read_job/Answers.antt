use mathlib.Core.Path.{refl, sym, ap, ◌∙◌}
use lib.ListN.{length}
use borrow.Author.Tests.{ne_eqb}
use Rattle.numbers.proofs.Choices.{left}
use Rattle.exports.specs.Jobs.{read_out}
use Rattle.exports.proofs.Jobs.{read_long, read_told_lem}
use Rattle.exports.proofs.pgo_read_job.Goals as goal

pub returns-then-answer-ne8 : goal.returns-then-answer-ne8
unfolding read_out
returns-then-answer-ne8 c = left _ (ne_eqb _ _ c.if-answer-ne8.true) refl

pub slice_bounds-copy-end : goal.slice_bounds-copy-end
slice_bounds-copy-end c = sym (ap length c.read_answer.ensures ∙ read_long c.read_job-v.result)

pub returns : goal.returns
returns c =
    read_told_lem _ _ _ c.if-answer-ne8.false c.read_job-v.ensures c.read_answer.ensures c.copy.ensures
    c.read_number.ensures
