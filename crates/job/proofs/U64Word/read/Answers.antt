use mathlib.Core.Path.{◌∙◌}
use Rattle.std.proofs.lemmas.Result.{MatchResult-at_ok}
use Rattle.job_records.proofs.Words.{read_low, value_in}
use Rattle.job.proofs.U64Word.read.Goals as goal

pub returns : goal.returns
returns c =
    let part = MatchResult-at_ok _ _ _ c.unwrap.ensures c.try_from.ensures.1 in
    c.from_le_bytes.ensures ∙ read_low 7 c.unwrap.result ∙ value_in 8 c.args.at c.args.s.now _ part.same
