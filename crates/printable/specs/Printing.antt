-- May it be printed (document 02, Wish 2): pose_graph.rs's `usable`, its tests in its order; and the first test that fails, for whoever asks why not.
-- Definitions only.
use Rattle.std.specs.Prelude.{ℕ, Bool, not, ◌&&◌, Float}
use Rattle.std.specs.Float.Ieee.{lt, le}
use Rattle.std.specs.Float.Ieee.Scale.{finite}
use Rattle.numbers.specs.Notation.{if_then}
use Rattle.rotations.specs.declared.Pose.{Pose}
use Rattle.graph.specs.Graph.{Graph}
use Rattle.graph.specs.declared.Edge.{Edge}
use Rattle.graph.specs.declared.Manifold.{Manifold}
use Rattle.printable.specs.Measures.{least_cosine, measures_of, gravity_kept, cosine_of}
use Rattle.printable.specs.declared.Measures.{Measures}
use Rattle.printable.specs.declared.Printable.{Printable}
use Rattle.printable.specs.declared.Printable.TheVariants as printable

abbrev pub finite_measures : Measures → Bool
finite_measures m =
    finite m.initial_cost
    && (finite m.final_cost && (finite m.new_loop_residual_before && finite m.new_loop_residual_after))

-- the cost is strictly lower, the last edge's residual no larger
abbrev pub cost_fell : Measures → Bool
cost_fell m = lt m.final_cost m.initial_cost

abbrev pub last_no_worse : Measures → Bool
last_no_worse m = le m.new_loop_residual_after m.new_loop_residual_before

-- converged, finite measures, gravity kept, cost strictly lower, last edge's residual no larger
unfoldable pub usable : Bool → Bool → Measures → Bool
usable converged kept m = converged && (finite_measures m && (kept && (cost_fell m && last_no_worse m)))

-- of a run of a graph's poses, before and after
abbrev pub usable_run : {P : Type 0} → Bool → Manifold → ℕ → Graph P Edge → (ℕ → Pose) → (ℕ → Pose) → Bool
usable_run converged manifold poses g before after = usable converged (gravity_kept manifold poses before after) (measures_of g before after)

-- ---- why not. With at most 2^32 edges the measures are finite exactly where the last edge has a residual, before and after: `finite_measures_lem` of
-- proofs/Judging

unfoldable pub printing : Bool → ℕ → ℕ → Float → Measures → Printable
printing converged iterations limit cosine m =
    if_then (not (finite_measures m)) printable.NoResidual
    (if_then (not converged) (printable.NotConverged iterations limit)
    (if_then (lt cosine least_cosine) (printable.Tipped cosine)
    (if_then (not (cost_fell m)) (printable.CostKept m.initial_cost m.final_cost)
    (if_then (not (last_no_worse m)) (printable.LastWorse m.new_loop_residual_before m.new_loop_residual_after)
    printable.Yes))))

abbrev pub printing_run : {P : Type 0} → Bool → ℕ → ℕ → Manifold → ℕ → Graph P Edge → (ℕ → Pose) → (ℕ → Pose) → Printable
printing_run converged iterations limit manifold poses g before after =
    printing converged iterations limit (cosine_of manifold poses before after) (measures_of g before after)
