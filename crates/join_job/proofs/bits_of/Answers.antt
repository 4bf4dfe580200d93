use mathlib.Core.Path.{sym, ap, ◌∙◌}
use lib.Ieee.{binary64, to_bits}
use Rattle.numbers.proofs.Read.{is_nan_lem}
use Rattle.line.proofs.FloatLaws.{nan_differs}
use Rattle.join_job.proofs.Patterns.{nan_bits_lem}
use Rattle.join_job.proofs.bits_of.Goals as goal

pub returns-then-is_nan : goal.returns-then-is_nan
returns-then-is_nan c =
    let differs = sym (nan_differs c.args.x) ∙ sym c.is_nan.ensures.value ∙ c.if-is_nan.true in
    nan_bits_lem ∙ ap (to_bits binary64) (sym (is_nan_lem c.args.x differs))
