use Rattle.probes.specs.Stances.{probes_gravity}
use Rattle.probes.proofs.probes_gravity.Goals as goal

pub returns : goal.returns
unfolding probes_gravity
returns c = rw (c.probe_gravity-2.ensures, c.probe_gravity.ensures)
