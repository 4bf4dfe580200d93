-- The normal system of a lent graph, behind the checks (document 01, "Graph, residual, assembly"), for hosts: rows 1 to 14 and 26, then 21; the work as found
-- where refused. Definitions only.
use Rattle.numbers.specs.declared.Refusal.{Refusal}
use Rattle.checks.specs.declared.Counts.{Counts}
use Rattle.std.specs.Prelude.{ℕ, ◌*◌, List, [], ◌++◌, length, drop, Float, Err, Ok, Result}
use Rattle.numbers.specs.Walks.{Ended, done, stopped}
use Rattle.graph.specs.Graph.{links_of, free_count}
use Rattle.graph.specs.Lent.{dof_of, pose_at}
use Rattle.graph.specs.declared.Manifold.{Manifold}
use Rattle.checks.specs.Input.{Input, lent, unset, graph_of}
use Rattle.checks.specs.Table.{graph_checks}
use Rattle.retraction.specs.Retraction.{unit_of}
use Rattle.profile.specs.Layout.{need}
use Rattle.assembly.specs.Assembly.{assembled_ends, assembly_row}

-- No f64 work is lent, and none is missed; an output as long as the poses is taken as given.
abbrev pub assembling : Manifold → List Float → List ℕ → List Float → List ℕ → List Float → Input
assembling m poses ends edges fixed w =
    lent m poses ends edges fixed unset (record { work32 = length w; work64 = 18446744073709551615; out = length poses })

-- the system in the first n (n + 3) numbers: H and gradient, the rest of these +0
abbrev pub system_out : ℕ → List Float → Ended (List Float) → ℕ × List Float
system_out n w (done s) = (0, s ++ drop (need n) w)
system_out n w (stopped k why s) = (assembly_row why, w)

abbrev pub assemble_from : Input → List Float → Result Counts Refusal → ℕ × List Float
assemble_from i w (Err r) = (r.number, w)
assemble_from i w (Ok c) =
    let n = dof_of i.manifold * free_count (graph_of i) in
    system_out n w (assembled_ends (unit_of i.manifold) n (links_of (graph_of i)) (pose_at i.poses) [])

unfoldable pub system_of : Input → List Float → ℕ × List Float
system_of i w = assemble_from i w (graph_checks i).answer
