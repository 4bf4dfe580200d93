use borrow.Author.Tests.{lt-ltb, le-ltb}
use Rattle.numbers.specs.Notation.{if_then}
use Rattle.probes.specs.Stances.{probes_se3, probes_gravity, probe_by, probes_by}
use Rattle.probes.proofs.probes_of.Goals as goal

pub returns-in-Se3 : goal.returns-in-Se3
unfolding probes_by probe_by probes_se3
returns-in-Se3 c = rw (c.in-Se3.is, c.probes_se3.ensures)

pub returns-then-c-ge3 : goal.returns-then-c-ge3
unfolding probes_by probe_by probes_gravity if_then
returns-then-c-ge3 c = rw (c.in-Gravity.is, c.probes_gravity.ensures, le-ltb _ _ c.if-c-ge3.true)

pub returns-else-c-ge3 : goal.returns-else-c-ge3
unfolding probes_by probe_by probes_gravity if_then
returns-else-c-ge3 c = rw (c.in-Gravity.is, c.probes_gravity-else-c-ge3.ensures, lt-ltb _ _ c.if-c-ge3.false)
