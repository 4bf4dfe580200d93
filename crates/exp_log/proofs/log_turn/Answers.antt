use Rattle.exp_log.specs.LogParts.{log_turn}
use Rattle.exp_log.proofs.log_turn.Goals as goal

pub returns : goal.returns
unfolding log_turn
returns c = rw (c.unbend_of.ensures, c.angle_of-w.ensures, c.upright_of-u.ensures)
