-- What the measures and tests answer at small concrete cases, computed: each law names a slip of the definition that it would not survive. Assumes nothing.
use Prim.Native.Nat.{ℕ}
use mathlib.Core.Path.{◌≡◌, refl}
use mathlib.Core.Bool.{Bool, true, false}
use mathlib.Core.List.{List, [], ◌∷◌, ◌++◌, map}
use lib.Ieee.{Float, nan, inf, binary64, of_bits, add, sub, mul, div, neg, lt, le}
use Rattle.numbers.specs.Notation.{num, ratio, if_then}
use Rattle.rounding.specs.Rounding.{rounded}
use Rattle.roots.specs.Roots.{rooted}
use Rattle.numbers.specs.Walks.{every, sum_of}
use Rattle.rotations.specs.Rotation.{vec, dot, cross, plus, minus, times, matrix_of, turned, conjugate, quat_product, wide, finished, product, inverse, over}
use Rattle.rotations.specs.FromMatrix.{halved_by, by_rule, quat_of_matrix}
use Rattle.exp_log.specs.ExpLog.{series, bent, upright, halved, arc_series, angle_of, unbend, log_wide}
use Rattle.pose_conversion.specs.Conversions.{vec_f32, mat_f32, transform_of, rebuilt, finite_pose, finite_transform, valid_transform, checked_transform, converting}
use Rattle.rotations.specs.declared.Pose.{Pose}
use Rattle.graph.specs.Graph.{Graph}
use Rattle.graph.specs.Lent.{pose_from, pose_at, edge_from}
use Rattle.checks.specs.Input.{lent_graph}
use Rattle.graph.specs.declared.Edge.{Edge}
use Rattle.graph.specs.declared.Manifold.{Manifold}
use Rattle.graph.specs.declared.Manifold.TheVariants.{Se3, Gravity}
use Rattle.residual.specs.Residuals.{error_of, weighted_vec, weighted, finite_twist, six_if_finite, residual_of}
use Rattle.printable.specs.declared.Measures.{Measures}
use Rattle.printable.specs.declared.Printable.{Printable}
use Rattle.printable.specs.declared.Printable.TheVariants as printable
use Rattle.printable.specs.Measures.{squares_of, squares_up_to, pose_graph_cost, last_residual, measures_of}
use Rattle.printable.specs.Measures.{gravity_cosine, gravity_kept, smallest_cosine, cosine_of}
use Rattle.printable.specs.Printing.{usable, usable_run, printing, printing_run}

-- all that the measures and tests compute by
unfoldable computed : Bool → ℕ → ℕ → Manifold → ℕ → Graph Pose Edge → (ℕ → Pose) → (ℕ → Pose) → Printable
unfolding ratio if_then add sub mul div neg lt le of_bits rounded rooted every sum_of
    dot cross plus minus times over matrix_of turned conjugate quat_product wide finished product inverse halved_by by_rule quat_of_matrix
    series bent upright halved arc_series angle_of unbend log_wide
    vec_f32 mat_f32 transform_of rebuilt finite_pose finite_transform valid_transform checked_transform converting pose_from edge_from
    error_of weighted_vec weighted finite_twist six_if_finite residual_of
    squares_of squares_up_to pose_graph_cost last_residual measures_of gravity_cosine gravity_kept smallest_cosine cosine_of usable printing
computed converged iterations limit m n g before after = printing_run converged iterations limit m n g before after

-- ---- a. the tests: the cost must fall, the last edge's residual may stay; each other test can refuse alone

-- cost before and after, last residual before and after
abbrev measures : Float → Float → Float → Float → Measures
measures c d r s = record { initial_cost = c; final_cost = d; new_loop_residual_before = r; new_loop_residual_after = s }

cost_fell_lem : usable true true (measures (num 2) (num 1) (num 2) (num 1)) ≡ true
unfolding computed
cost_fell_lem = refl

equal_costs : usable true true (measures (num 1) (num 1) (num 2) (num 1)) ≡ false
unfolding computed
equal_costs = refl

equal_last_residual : usable true true (measures (num 2) (num 1) (num 1) (num 1)) ≡ true
unfolding computed
equal_last_residual = refl

larger_last_residual : usable true true (measures (num 2) (num 1) (num 1) (num 2)) ≡ false
unfolding computed
larger_last_residual = refl

not_converged : usable false true (measures (num 2) (num 1) (num 2) (num 1)) ≡ false
unfolding computed
not_converged = refl

gravity_lost : usable true false (measures (num 2) (num 1) (num 2) (num 1)) ≡ false
unfolding computed
gravity_lost = refl

-- infinities that every other test would let pass
each_must_be_finite :
    map (usable true true)
    (measures (inf false) (num 1) (num 2) (num 1) ∷ measures (num 2) (inf true) (num 2) (num 1)
    ∷ measures (num 2) (num 1) (inf false) (num 1) ∷ measures (num 2) (num 1) (num 2) (inf true) ∷ [])
    ≡ false ∷ false ∷ false ∷ false ∷ []
unfolding computed
each_must_be_finite = refl

-- ---- b. the first test that fails: the residual, then converged, gravity, the cost, the last edge; and what it compared, before first

no_residual_first : printing false 3 30 (num 0) (measures (num 1) (num 1) (num 1) nan) ≡ printable.NoResidual
unfolding computed
no_residual_first = refl

converged_second : printing false 3 30 (num 0) (measures (num 1) (num 2) (num 1) (num 2)) ≡ printable.NotConverged 3 30
unfolding computed
converged_second = refl

gravity_third : printing true 3 30 (num 0) (measures (num 1) (num 2) (num 1) (num 2)) ≡ printable.Tipped (num 0)
unfolding computed
gravity_third = refl

cost_fourth : printing true 3 30 (num 1) (measures (num 1) (num 2) (num 3) (num 4)) ≡ printable.CostKept (num 1) (num 2)
unfolding computed
cost_fourth = refl

last_edge_fifth : printing true 3 30 (num 1) (measures (num 2) (num 1) (num 3) (num 4)) ≡ printable.LastWorse (num 3) (num 4)
unfolding computed
last_edge_fifth = refl

equal_costs_are_told : printing true 3 30 (num 1) (measures (num 1) (num 1) (num 2) (num 1)) ≡ printable.CostKept (num 1) (num 1)
unfolding computed
equal_costs_are_told = refl

equal_last_residual_passes : printing true 3 30 (num 1) (measures (num 2) (num 1) (num 1) (num 1)) ≡ printable.Yes
unfolding computed
equal_last_residual_passes = refl

-- the least cosine itself passes, and a NaN; one billionth less does not
least_cosine_passes : printing true 3 30 (ratio 999999995 1000000000) (measures (num 2) (num 1) (num 2) (num 1)) ≡ printable.Yes
unfolding computed
least_cosine_passes = refl

nan_cosine_passes : printing true 3 30 nan (measures (num 2) (num 1) (num 2) (num 1)) ≡ printable.Yes
unfolding computed
nan_cosine_passes = refl

less_is_tipped : printing true 3 30 (ratio 999999994 1000000000) (measures (num 2) (num 1) (num 2) (num 1)) ≡ printable.Tipped (ratio 999999994 1000000000)
unfolding computed
less_is_tipped = refl

-- ---- c. the cost: half of the squares of every edge, also of one between fixed poses; one that has no residual adds nothing. The last edge's is its own

-- a pose with no turn at (x, 0, 0), one with a turn by a quarter about x, one with a matrix of zeros; and an edge that measured (x, 0, 0)
abbrev pose : Float → List Float
pose x = num 1 ∷ num 0 ∷ num 0 ∷ num 0 ∷ num 1 ∷ num 0 ∷ num 0 ∷ num 0 ∷ num 1 ∷ x ∷ num 0 ∷ num 0 ∷ []

abbrev quarter : List Float
quarter = num 1 ∷ num 0 ∷ num 0 ∷ num 0 ∷ num 0 ∷ num 1 ∷ num 0 ∷ neg (num 1) ∷ num 0 ∷ num 0 ∷ num 0 ∷ num 0 ∷ []

abbrev flat : List Float
flat = num 0 ∷ num 0 ∷ num 0 ∷ num 0 ∷ num 0 ∷ num 0 ∷ num 0 ∷ num 0 ∷ num 0 ∷ num 0 ∷ num 0 ∷ num 0 ∷ []

abbrev edge : ℕ → List Float
edge x = num 0 ∷ num 0 ∷ num 0 ∷ num 1 ∷ num x ∷ num 0 ∷ num 0 ∷ num 1 ∷ []

-- the f64 nearest to 1e300, which no f32 holds: an edge to a pose there has no residual
abbrev far : Float
far = of_bits binary64 0x7e37_e43c_8800_759c

abbrev poses : List Float
poses = pose (num 0) ++ pose (num 1) ++ pose far

one_edge_between_fixed : pose_graph_cost (lent_graph poses (0 ∷ 1 ∷ []) (edge 2) (0 ∷ 1 ∷ [])) (pose_at poses) ≡ ratio 1 2
unfolding computed
one_edge_between_fixed = refl

second_has_no_residual : pose_graph_cost (lent_graph poses (0 ∷ 1 ∷ 0 ∷ 2 ∷ []) (edge 2 ++ edge 2) []) (pose_at poses) ≡ ratio 1 2
unfolding computed
second_has_no_residual = refl

both_are_counted : pose_graph_cost (lent_graph poses (0 ∷ 1 ∷ 1 ∷ 0 ∷ []) (edge 2 ++ edge 2) []) (pose_at poses) ≡ num 5
unfolding computed
both_are_counted = refl

last_of_two : last_residual (lent_graph poses (0 ∷ 1 ∷ 1 ∷ 0 ∷ []) (edge 2 ++ edge 2) []) (pose_at poses) ≡ num 3
unfolding computed
last_of_two = refl

last_has_no_residual : last_residual (lent_graph poses (0 ∷ 1 ∷ 0 ∷ 2 ∷ []) (edge 2 ++ edge 2) []) (pose_at poses) ≡ nan
unfolding computed
last_has_no_residual = refl

no_edges : (l : List Float) → last_residual (lent_graph l [] [] []) (pose_at l) ≡ nan
unfolding computed
no_edges l = refl

no_edges_cost_nothing : (l : List Float) → pose_graph_cost (lent_graph l [] [] []) (pose_at l) ≡ num 0
unfolding computed
no_edges_cost_nothing l = refl

-- ---- d. gravity: a cosine that is a NaN is passed over; a quarter is not kept, whichever pose has it

abbrev down : Manifold
down = Gravity (vec (num 0) (num 0) (num 2))

nan_is_passed_over : gravity_kept down 2 (pose_at (flat ++ pose (num 0))) (pose_at (pose (num 0) ++ pose (num 0))) ≡ true
unfolding computed
nan_is_passed_over = refl

nan_is_not_smallest : cosine_of down 2 (pose_at (pose (num 0) ++ flat)) (pose_at (pose (num 0) ++ pose (num 0))) ≡ num 1
unfolding computed
nan_is_not_smallest = refl

quarter_first : gravity_kept down 2 (pose_at (pose (num 0) ++ pose (num 0))) (pose_at (quarter ++ pose (num 0))) ≡ false
unfolding computed
quarter_first = refl

quarter_last : gravity_kept down 2 (pose_at (pose (num 0) ++ pose (num 0))) (pose_at (pose (num 0) ++ quarter)) ≡ false
unfolding computed
quarter_last = refl

kept_without_gravity : gravity_kept Se3 1 (pose_at (pose (num 0))) (pose_at quarter) ≡ true
unfolding computed
kept_without_gravity = refl

quarter_without_gravity : cosine_of Se3 1 (pose_at (pose (num 0))) (pose_at quarter) ≡ num 1
unfolding computed
quarter_without_gravity = refl

-- ---- e. a run: pose 1 goes where its edge measured it, and pose 2, which no edge names, turns by a quarter

abbrev before : List Float
before = pose (num 0) ++ pose (num 1) ++ pose (num 0)

abbrev after : List Float
after = pose (num 0) ++ pose (num 2) ++ quarter

abbrev graph : Graph Pose Edge
graph = lent_graph before (0 ∷ 1 ∷ []) (edge 2) (0 ∷ [])

measured_before_and_after : measures_of graph (pose_at before) (pose_at after) ≡ measures (ratio 1 2) (num 0) (num 1) (num 0)
unfolding computed
measured_before_and_after = refl

tipped_though_cost_fell : printing_run true 3 30 down 3 graph (pose_at before) (pose_at after) ≡ printable.Tipped (num 0)
unfolding computed
tipped_though_cost_fell = refl

not_usable_though_cost_fell : usable_run true down 3 graph (pose_at before) (pose_at after) ≡ false
unfolding computed
not_usable_though_cost_fell = refl

printed_without_gravity : printing_run true 3 30 Se3 3 graph (pose_at before) (pose_at after) ≡ printable.Yes
unfolding computed
printed_without_gravity = refl

-- in a run that goes the other way the cost is kept
backwards : printing_run true 3 30 Se3 3 graph (pose_at after) (pose_at before) ≡ printable.CostKept (num 0) (ratio 1 2)
unfolding computed
backwards = refl
