-- The lent numbers that the reader fills and the writer is given: what they hold, and that they are the same loans. Definitions only; for the functions behind
-- the reader and the writer, and nothing else rests on it.
use Rattle.std.specs.Prelude.{◌≡◌}
use Rattle.job.specs.Format.{Job, job_of, Space, space}
use Rattle.job.specs.declared.Lent.{Lent}
use Rattle.job.specs.declared.Numbers.{Numbers}

abbrev pub held_in : Lent → Space
held_in l = space l.poses.now l.ends.now l.edges.now l.fixed.now

abbrev pub SameLoans : Lent → Lent → Type 0
SameLoans l m =
    (m.poses.ghost_name ≡ l.poses.ghost_name) × (m.ends.ghost_name ≡ l.ends.ghost_name) × (m.edges.ghost_name ≡ l.edges.ghost_name)
    × (m.fixed.ghost_name ≡ l.fixed.ghost_name)

abbrev pub job_in : Numbers → Job
job_in n = job_of n.settings (space n.poses.now n.ends.now n.edges.now n.fixed.now)
