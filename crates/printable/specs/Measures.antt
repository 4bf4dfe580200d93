-- What is measured of a joined scan, in f64: the cost of all its edges, the residual of its last edge, and how far gravity tipped (pose_graph.rs; document 02,
-- Wish 2). Of any edges and any poses. Definitions only.
use Rattle.numbers.specs.declared.Failure.{Failure}
use Rattle.std.specs.Prelude.{ℕ, zero, suc, ◌-◌, Bool, true, not, get_or, Float, Err, Ok, Result}
use Rattle.std.specs.Float.{binary64, nan}
use Rattle.std.specs.Float.Ieee.{lt}
use Rattle.numbers.specs.Notation.{◌⊕◌, ◌⊗◌, num, ratio, if_then}
use Rattle.roots.specs.Roots.{root64}
use Rattle.numbers.specs.Walks.{every, sum_of}
use Rattle.rotations.specs.Rotation.{dot, turned, unit_vec}
use Rattle.rotations.specs.Formats.{Vec3}
use Rattle.rotations.specs.declared.Pose.{Pose}
use Rattle.exp_log.specs.Formats.{Twist}
use Rattle.graph.specs.Graph.{Graph}
use Rattle.graph.specs.declared.Edge.{Edge}
use Rattle.graph.specs.declared.Manifold.{Manifold}
use Rattle.graph.specs.declared.Manifold.TheVariants.{Se3, Gravity}
use Rattle.residual.specs.Residuals.{residual_of, six_of}
use Rattle.printable.specs.declared.Measures.{Measures}

-- ---- an edge

-- the residual of edge k at the poses
abbrev pub edge_residual : {P : Type 0} → Graph P Edge → (ℕ → Pose) → ℕ → Result Twist Failure
edge_residual g pose k = residual_of (pose (g.a k)) (pose (g.b k)) (g.measured k)

-- the sum of its six squares, in order, from +0
unfoldable pub squares_of : Twist → Float
squares_of d = sum_of binary64 (λ j. get_or (six_of d) j nan ⊗ get_or (six_of d) j nan) 6

-- ---- the cost: half the sum over all edges that have a residual, in order, from +0

abbrev pub with_squares : Result Twist Failure → Float → Float
with_squares (Ok d) sum = sum ⊕ squares_of d
with_squares (Err why) sum = sum

unfoldable pub squares_up_to : {P : Type 0} → Graph P Edge → (ℕ → Pose) → ℕ → Float
squares_up_to g pose zero = num 0
squares_up_to g pose (suc k) = with_squares (edge_residual g pose k) (squares_up_to g pose k)

unfoldable pub pose_graph_cost : {P : Type 0} → Graph P Edge → (ℕ → Pose) → Float
pose_graph_cost g pose = ratio 1 2 ⊗ squares_up_to g pose g.edges

-- ---- the last edge: the length of its residual, a NaN where it has none

abbrev pub residual_norm : Result Twist Failure → Float
residual_norm (Ok d) = root64 (squares_of d)
residual_norm (Err why) = nan

unfoldable pub last_residual : {P : Type 0} → Graph P Edge → (ℕ → Pose) → Float
last_residual g pose = residual_norm (edge_residual g pose (g.edges - 1))

unfoldable pub measures_of : {P : Type 0} → Graph P Edge → (ℕ → Pose) → (ℕ → Pose) → Measures
measures_of g before after =
    record {
      initial_cost = pose_graph_cost g before;
      final_cost = pose_graph_cost g after;
      new_loop_residual_before = last_residual g before;
      new_loop_residual_after = last_residual g after;
    }

-- ---- gravity, as a camera sees it before and after: the cosine between the two

-- g of unit length, turned by each rotation
unfoldable pub gravity_cosine : Vec3 → Pose → Pose → Float
gravity_cosine g before after = dot (unit_vec (turned before.rotation g)) (unit_vec (turned after.rotation g))

abbrev pub least_cosine : Float
least_cosine = ratio 999999995 1000000000

-- no pose's cosine is below that; a NaN is not
unfoldable pub gravity_kept : Manifold → ℕ → (ℕ → Pose) → (ℕ → Pose) → Bool
gravity_kept Se3 poses before after = true
gravity_kept (Gravity g) poses before after = every (λ x. not (lt (gravity_cosine (unit_vec g) (before x) (after x)) least_cosine)) poses

-- the smallest of 1 and the cosines of the first poses, NaNs passed over
unfoldable pub smallest_cosine : Vec3 → ℕ → (ℕ → Pose) → (ℕ → Pose) → Float
smallest_cosine g zero before after = num 1
smallest_cosine g (suc x) before after =
    let least = smallest_cosine g x before after in
    let cosine = gravity_cosine g (before x) (after x) in
    if_then (lt cosine least) cosine least

-- of a run without gravity it is 1
unfoldable pub cosine_of : Manifold → ℕ → (ℕ → Pose) → (ℕ → Pose) → Float
cosine_of Se3 poses before after = num 1
cosine_of (Gravity g) poses before after = smallest_cosine (unit_vec g) poses before after
