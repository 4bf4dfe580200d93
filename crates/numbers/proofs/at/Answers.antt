use Rattle.std.proofs.Common.{sym, ◌∙◌}
use lib.ListN.{get_or-eq_default}
use Rattle.numbers.proofs.at.Goals as goal

pub returns-else-i-xs : goal.returns-else-i-xs
returns-else-i-xs g c = c.nan.ensures ∙ sym (get_or-eq_default c.args.xs.now _ c.if-i-xs.false)
