use Rattle.assembly.specs.Known.{Probed}
use Rattle.probes.specs.Stances.{probe_by}
use Prim.Native.Nat.{◌≤◌, ◌-◌}
use Rattle.assembly.proofs.fill_probes.Given as goal

abbrev pub invariant-loop-c : goal.invariant-loop-c
invariant-loop-c l = (l.c ≤ l.dof) × Probed (probe_by l.stance) l.x l.c l.initial.known l.known

abbrev pub decreases-loop-c : goal.decreases-loop-c
decreases-loop-c l = l.dof - l.c
