-- Document 01's sample costs, computed by antt. Assumes nothing.
use Rattle.costs.specs.declared.BadEdge.{BadEdge}
use Rattle.std.specs.Prelude.{◌≡◌, refl, List, [], ◌∷◌, ◌++◌, map, ℕ, Float, Err, Ok, Result}
use Rattle.std.specs.Float.{binary32, binary64}
use Rattle.std.specs.Float.Ieee.{of_bits, to_bits, add, sub, mul, div, neg, lt, le}
use Rattle.numbers.specs.Notation.{num, ratio, if_then}
use Rattle.rounding.specs.Rounding.{rounded}
use Rattle.roots.specs.Roots.{rooted}
use Rattle.numbers.specs.Walks.{each, must_be_finite}
use Rattle.rotations.specs.Rotation.{dot, cross, plus, minus, times, matrix_of, turned, conjugate, quat_product, wide, finished, product, inverse, over}
use Rattle.rotations.specs.FromMatrix.{halved_by, by_rule, quat_of_matrix}
use Rattle.exp_log.specs.ExpLog.{series, bent, upright, halved, arc_series, angle_of, unbend, log_wide}
use Rattle.pose_conversion.specs.Conversions.{vec_f32, mat_f32, transform_of, rebuilt, finite_pose, finite_transform, valid_transform, checked_transform, converting}
use Rattle.graph.specs.Lent.{pose_from, pose_at, edge_from, slot_in, lent_links, none}
use Rattle.residual.specs.Residuals.{error_of, weighted_vec, weighted, finite_twist, six_if_finite, residual_of}
use Rattle.costs.specs.Costs.{square_step, priced, price_at, cost_ends, cost_of}

-- a pose with no turn at (x, 0, 0), and an edge that measured one, of weight w
abbrev pose : Float → List Float
pose x = num 1 ∷ num 0 ∷ num 0 ∷ num 0 ∷ num 1 ∷ num 0 ∷ num 0 ∷ num 0 ∷ num 1 ∷ x ∷ num 0 ∷ num 0 ∷ []

abbrev edge : ℕ → Float → List Float
edge x w = num 0 ∷ num 0 ∷ num 0 ∷ num 1 ∷ num x ∷ num 0 ∷ num 0 ∷ w ∷ []

-- the bits of a cost; none where it can't be had
abbrev bits : Result Float BadEdge → List ℕ
bits (Ok c) = to_bits binary32 c ∷ []
bits (Err bad) = []

-- Pose 0 is fixed at the identity. An edge from it to pose 1 at (x, 0, 0), which is free; or to pose 1 at (1, 0, 0), with a second edge to a third pose
-- at (x, 0, 0), which is fixed.
pub data Case : Type 0 where
  at : Float → ℕ → Float → Case
  beside : Float → Case

unfoldable pub answer : Case → List ℕ
answer (at x measured weight) =
    bits (cost_of (lent_links (0 ∷ 1 ∷ []) (edge measured weight) (none ∷ 0 ∷ []) 1) (pose_at (pose (num 0) ++ pose x)))
answer (beside x) =
    bits (cost_of (lent_links (0 ∷ 1 ∷ 0 ∷ 2 ∷ []) (edge 2 (num 1) ++ edge 2 (num 1)) (none ∷ 0 ∷ none ∷ []) 1)
    (pose_at (pose (num 0) ++ pose (num 1) ++ pose x)))

-- the f64 nearest to 1e300
abbrev far : Float
far = of_bits binary64 0x7e37_e43c_8800_759c

-- measured (1, 0, 0) costs 0; (2, 0, 0) costs 1, or 0.25 at weight 0.5; a pose at 1e300 can't be priced where an active edge names it, and costs
-- nothing elsewhere
pub samples : map answer (at (num 1) 1 (num 1) ∷ at (num 1) 2 (num 1) ∷ at (num 1) 2 (ratio 1 2) ∷ at far 1 (num 1) ∷ beside far ∷ [])
    ≡ (0 ∷ []) ∷ (0x3f80_0000 ∷ []) ∷ (0x3e80_0000 ∷ []) ∷ [] ∷ (0x3f80_0000 ∷ []) ∷ []
unfolding answer ratio if_then add sub mul div neg lt le of_bits to_bits rounded rooted each must_be_finite
    dot cross plus minus times over matrix_of turned conjugate quat_product wide finished product inverse halved_by by_rule quat_of_matrix
    series bent upright halved arc_series angle_of unbend log_wide
    vec_f32 mat_f32 transform_of rebuilt finite_pose finite_transform valid_transform checked_transform converting pose_from edge_from slot_in
    error_of weighted_vec weighted finite_twist six_if_finite residual_of square_step priced price_at cost_ends cost_of
samples = refl
