-- The terms of a job's run: every setting as it stands in the job (document 02, Wish 1), and whether what a run with six degrees of freedom a pose gave may
-- be printed (Wish 2). Definitions only.
use Rattle.std.specs.Prelude.{ℕ, ◌/◌, Bool, List, [], length, Float}
use Rattle.std.specs.Float.{binary32}
use Rattle.std.specs.Float.Ieee.{of_bits}
use Rattle.graph.specs.Lent.{pose_at}
use Rattle.graph.specs.declared.Manifold.TheVariants.{Se3}
use Rattle.checks.specs.Input.{lent_graph}
use Rattle.rows.specs.declared.Settings.{Settings}
use Rattle.job.specs.declared.SettingBits.{SettingBits}
use Rattle.printable.specs.Printing.{printing_run}
use Rattle.printable.specs.declared.Printable.{Printable}

abbrev pub settings_as : SettingBits → Settings
settings_as t =
    record {
      limit = t.limit;
      cost_tolerance = of_bits binary32 t.cost_tolerance;
      gradient_tolerance = of_bits binary32 t.gradient_tolerance;
      damping = of_bits binary32 t.damping;
    }

-- whether it converged, its iterations and their limit; at the poses given and at those that came out
unfoldable pub printable_after : Bool → ℕ → ℕ → List Float → List ℕ → List Float → List Float → Printable
printable_after converged iterations limit poses ends edges new =
    printing_run converged iterations limit Se3 (length poses / 12) (lent_graph [] ends edges []) (pose_at poses) (pose_at new)
