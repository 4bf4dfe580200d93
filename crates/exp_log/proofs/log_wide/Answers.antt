use Rattle.exp_log.proofs.LogParts.{log_parts}
use Rattle.exp_log.proofs.log_wide.Goals as goal

pub returns : goal.returns
returns c = rw (c.log_at.ensures, c.log_turn.ensures, c.widened-u.ensures) (log_parts _)
