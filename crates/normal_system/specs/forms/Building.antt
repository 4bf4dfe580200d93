-- What the private functions behind an assembly alone promise: the system of lent numbers that passed the checks, made in scratch. The promise of
-- `assemble_alone` ties it to `system_of`. Definitions only.
use Rattle.assembly.specs.declared.AssemblyError.TheVariants as assembly_error
use Rattle.assembly.specs.declared.AssemblyError.{AssemblyError}
use Rattle.std.specs.Prelude.{ℕ, ◌*◌, List, [], Float, Err, Ok, Result, ⊤}
use Rattle.graph.specs.Lent.{dof_of, pose_at, links_lent}
use Rattle.graph.specs.declared.LentLinks.{LentLinks}
use Rattle.graph.specs.declared.Manifold.{Manifold}
use Rattle.assembly.specs.Assembly.{assembled_ends, assembly_row}
use Rattle.normal_system.specs.NormalSystem.{system_out}

-- with the blocks of the poses
abbrev pub built_out : Manifold → List Float → LentLinks → List Float → ℕ × List Float
built_out m poses links w =
    system_out (dof_of m * links.free) w (assembled_ends m (dof_of m * links.free) (links_lent links) (pose_at poses) [])

-- what came of it: 0, or the number of the row that refuses
abbrev pub built_number : Result ⊤ AssemblyError → ℕ
built_number (Ok _) = 0
built_number (Err (assembly_error.BadEdge k why)) = assembly_row why
built_number (Err assembly_error.Short) = 21
