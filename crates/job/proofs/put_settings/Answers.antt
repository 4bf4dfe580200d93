use Rattle.numbers.specs.Walks.{strung}
use Rattle.job.specs.Format.{setting_numbers}
use Rattle.job.proofs.Writing.{settings_put}
use Rattle.job.proofs.put_settings.Goals as goal

pub returns : goal.returns
unfolding strung
returns c = rw (c.put_all.ensures, c.put_header.ensures) (settings_put (setting_numbers c.args.t) c.args.out.now c.requires)
