use Rattle.numbers.proofs.Question.{handed_on}
use Rattle.sparse_pgo.proofs.answer_of.Goals as goal

pub returns-in_err-why : goal.returns-in_err-why
returns-in_err-why c = rw c.in_err-why.was (handed_on _ c.from_residual.ensures.1)

pub returns : goal.returns
returns c = rw (c.in_ok-why.was, c.has_converged.ensures)
