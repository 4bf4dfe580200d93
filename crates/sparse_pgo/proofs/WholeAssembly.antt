-- The Rust fills whole blocks on the diagonal. An input that passes the checks is turned down by such an assembly exactly where it is by the lower triangle alone,
-- and where neither stops the system is the same, bit for bit. Assumes nothing.
use Rattle.std.specs.Prelude.{Ok}
use mathlib.Core.Path.{◌≡◌}
use mathlib.Core.List.{List, []}
use lib.Ieee.{Float}
use Rattle.graph.specs.Graph.{links_of}
use Rattle.graph.specs.Lent.{pose_at}
use Rattle.checks.specs.Input.{Input, graph_of}
use Rattle.checks.specs.Table.{checks}
use Rattle.checks.specs.declared.Counts.{Counts}
use Rattle.checks.proofs.Passed.{fit}
use Rattle.retraction.specs.Retraction.{unit_of}
use Rattle.additions.specs.Additions.{whole_blocks}
use Rattle.assembly.specs.Assembly.{ends_by}
use Rattle.assembly.proofs.WholeBlocks.{Alike, whole_blocks_lem, graph_apart}
use Rattle.sparse_pgo.specs.Numerics.{parts_on}
use Rattle.sparse_pgo.specs.Refusing.{run_parts}
use Rattle.sparse_pgo.proofs.AlwaysFinite.{unknowns, blocks_fit}

pub whole_assembly : (i : Input) (c : Counts) → (checks i).answer ≡ Ok c → (x : List Float)
    → Alike (unknowns i) ((run_parts i).assembled x) (ends_by whole_blocks (unit_of i.manifold) (unknowns i) (links_of (graph_of i)) (pose_at x) [])
unfolding parts_on
whole_assembly i c e x =
    let g = (fit i c e).0.graph in
    whole_blocks_lem (unit_of i.manifold) (unknowns i) (links_of (graph_of i)) (pose_at x) [] (blocks_fit i g) (graph_apart (graph_of i) g.ends_differ)
