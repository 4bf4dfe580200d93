-- For an input that passes the checks, at any poses: the system that a run solves is H = Σ JᵀJ and gradient = Σ Jᵀr over its active edges, entry by entry;
-- and it is the same where each six products are added from −0, as the Rust adds them. Assumes nothing.
use Rattle.std.specs.Prelude.{Ok}
use mathlib.Core.Path.{◌≡◌}
use mathlib.Core.List.{List, []}
use lib.Ieee.{Float, neg}
use Rattle.numbers.specs.Notation.{num}
use Rattle.numbers.specs.Walks.{done}
use Rattle.graph.specs.Graph.{links_of}
use Rattle.graph.specs.Lent.{pose_at}
use Rattle.checks.specs.Input.{Input, graph_of}
use Rattle.checks.specs.Table.{checks}
use Rattle.checks.specs.declared.Counts.{Counts}
use Rattle.checks.proofs.Passed.{fit}
use Rattle.retraction.specs.Retraction.{unit_of}
use Rattle.assembly.specs.Sums.{IsSums}
use Rattle.assembly.proofs.WholeBlocks.{graph_apart}
use Rattle.assembly.proofs.Sums.{entries_are_sums, from_minus_zero}
use Rattle.sparse_pgo.specs.Numerics.{parts_on}
use Rattle.sparse_pgo.specs.Refusing.{run_parts}
use Rattle.sparse_pgo.proofs.AlwaysFinite.{unknowns, blocks_fit}

pub system_is_sums : (i : Input) (c : Counts) → (checks i).answer ≡ Ok c → (x w : List Float) → (run_parts i).assembled x ≡ done w
    → IsSums (unit_of i.manifold) (links_of (graph_of i)) (pose_at x) (num 0) (unknowns i) w
unfolding parts_on
system_is_sums i c e x w h =
    let g = (fit i c e).0.graph in
    entries_are_sums (unit_of i.manifold) (unknowns i) (links_of (graph_of i)) (pose_at x) [] w (blocks_fit i g) (graph_apart (graph_of i) g.ends_differ) h

pub system_from_minus_zero : (i : Input) (c : Counts) → (checks i).answer ≡ Ok c → (x w : List Float) → (run_parts i).assembled x ≡ done w
    → IsSums (unit_of i.manifold) (links_of (graph_of i)) (pose_at x) (neg (num 0)) (unknowns i) w
unfolding parts_on
system_from_minus_zero i c e x w h =
    let g = (fit i c e).0.graph in
    from_minus_zero (unit_of i.manifold) (unknowns i) (links_of (graph_of i)) (pose_at x) [] w (blocks_fit i g) (graph_apart (graph_of i) g.ends_differ) h
