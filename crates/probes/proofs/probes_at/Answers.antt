use Rattle.std.specs.Prelude.{Result}
use mathlib.Core.Path.{sym, ap, ◌∙◌}
use Rattle.numbers.specs.declared.Failure.{Failure}
use Rattle.probes.specs.declared.Stance.{Stance}
use Rattle.probes.specs.Stances.{probe_by, probes_by}
use Rattle.probes.proofs.probes_at.Goals as goal

pub returns-in-Ok : goal.returns-in-Ok
returns-in-Ok c = c.probes_of.ensures ∙ sym (ap (λ (s : Result Stance Failure). probes_by s c.args.c) c.in-Ok.is)

pub returns-in-Err : goal.returns-in-Err
unfolding probes_by probe_by
returns-in-Err c = rw c.in-Err.is
