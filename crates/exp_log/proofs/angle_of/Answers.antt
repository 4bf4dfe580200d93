use Rattle.exp_log.specs.ExpLog.{angle_of}
use Rattle.exp_log.specs.LogParts.{angle_from}
use Rattle.exp_log.proofs.angle_of.Goals as goal

pub returns : goal.returns
unfolding angle_of angle_from
returns c = rw (c.angle_from.ensures, c.half-3.ensures, c.half-2.ensures, c.half.ensures)
