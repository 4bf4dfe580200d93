-- What the exported functions of the layers give back and write: lists in, a list written or left as found. A slice of another length than named gets
-- 4294967295 back, and nothing is changed. Definitions only.
use Rattle.solve.specs.declared.SolveError.TheVariants as solve_error
use Rattle.solve.specs.declared.SolveError.{SolveError}
use Rattle.numbers.specs.declared.Failure.{Failure}
use Rattle.exp_log.specs.Formats.{Twist}
use Rattle.std.specs.Prelude.{ℕ, ◌&&◌, List, [], ◌∷◌, eqb, length, Float, Err, None, Ok, Option, Result, Some, ⊤}
use Rattle.numbers.specs.Notation.{if_then, number_at}
use Rattle.rotations.specs.Rotation.{vec, product, inverse}
use Rattle.rotations.specs.FromMatrix.{quat_of_matrix}
use Rattle.exp_log.specs.ExpLog.{exp_of, log_of}
use Rattle.rotations.specs.Formats.{Vec3, Mat3F32, Transform}
use Rattle.rotations.specs.declared.Pose.{Pose}
use Rattle.graph.specs.Lent.{pose_from, edge_from, numbers_of}
use Rattle.graph.specs.declared.Edge.{Edge}
use Rattle.graph.specs.declared.Manifold.TheVariants.{Se3, Gravity}
use Rattle.residual.specs.Residuals.{residual_of, six_of}
use Rattle.retraction.specs.Retraction.{retract_of}
use Rattle.profile.specs.Layout.{need}
use Rattle.solve.specs.Work.{solved_as, leaves}
use Rattle.telling.specs.Telling.{quat_numbers, transform_numbers}

abbrev pub unfit_number : ℕ
unfit_number = 4294967295

abbrev pub first_six : List Float → List Float
first_six l = number_at l 0 ∷ number_at l 1 ∷ number_at l 2 ∷ number_at l 3 ∷ number_at l 4 ∷ number_at l 5 ∷ []

-- nine numbers by columns
unfoldable pub matrix_from : List Float → Mat3F32
matrix_from l = record {
  x = record { x = number_at l 0; y = number_at l 1; z = number_at l 2 };
  y = record { x = number_at l 3; y = number_at l 4; z = number_at l 5 };
  z = record { x = number_at l 6; y = number_at l 7; z = number_at l 8 };
}

-- seven numbers: quaternion x, y, z, w, then translation
unfoldable pub transform_from : List Float → Transform
transform_from l = record {
  q = record { x = number_at l 0; y = number_at l 1; z = number_at l 2; w = number_at l 3 };
  t = record { x = number_at l 4; y = number_at l 5; z = number_at l 6 };
}

abbrev pub three : List Float → Vec3
three l = vec (number_at l 0) (number_at l 1) (number_at l 2)

-- a list of twelve numbers as a pose, of eight as an edge
abbrev pub pose : List Float → Pose
pose l = pose_from (number_at l)

abbrev pub edge : List Float → Edge
edge l = edge_from (number_at l)

-- 0 and the new list where the lengths are right
unfoldable pub quaternion_out : List Float → List Float → ℕ × List Float
quaternion_out m out =
    if_then (eqb (length m) 9 && eqb (length out) 4) (0, quat_numbers (quat_of_matrix (matrix_from m))) (unfit_number, out)

unfoldable pub product_out : List Float → List Float → List Float → ℕ × List Float
product_out a b out =
    if_then (eqb (length a) 7 && (eqb (length b) 7 && eqb (length out) 7))
    (0, transform_numbers (product (transform_from a) (transform_from b)))
    (unfit_number, out)

unfoldable pub inverse_out : List Float → List Float → ℕ × List Float
inverse_out a out = if_then (eqb (length a) 7 && eqb (length out) 7) (0, transform_numbers (inverse (transform_from a))) (unfit_number, out)

unfoldable pub log_out : List Float → List Float → ℕ × List Float
log_out a out = if_then (eqb (length a) 7 && eqb (length out) 6) (0, six_of (log_of (transform_from a))) (unfit_number, out)

-- 1 where it fails, the output as found
abbrev pub moved_out : List Float → Option Transform → ℕ × List Float
moved_out out (Some a) = (0, transform_numbers a)
moved_out out None = (1, out)

-- translation first, then the turn
unfoldable pub exp_out : List Float → List Float → ℕ × List Float
exp_out δ out =
    if_then (eqb (length δ) 6 && eqb (length out) 7)
    (moved_out out (exp_of (three δ) (vec (number_at δ 3) (number_at δ 4) (number_at δ 5)))) (unfit_number, out)

abbrev pub restored_out : List Float → Result Pose Failure → ℕ × List Float
restored_out out (Ok p) = (0, numbers_of p)
restored_out out (Err why) = (1, out)

unfoldable pub retract_out : List Float → List Float → List Float → ℕ × List Float
retract_out p δ out =
    if_then (eqb (length p) 12 && (eqb (length δ) 6 && eqb (length out) 12)) (restored_out out (retract_of Se3 (pose p) δ)) (unfit_number, out)

-- g is taken as the unit vector, as given
unfoldable pub retract_gravity_out : List Float → List Float → List Float → List Float → ℕ × List Float
retract_gravity_out g p δ out =
    if_then (eqb (length g) 3 && (eqb (length p) 12 && (eqb (length δ) 4 && eqb (length out) 12)))
    (restored_out out (retract_of (Gravity (three g)) (pose p) δ))
    (unfit_number, out)

abbrev pub six_out : List Float → Result Twist Failure → ℕ × List Float
six_out out (Ok d) = (0, six_of d)
six_out out (Err why) = (1, out)

unfoldable pub residual_out : List Float → List Float → List Float → List Float → ℕ × List Float
residual_out a b e out =
    if_then (eqb (length a) 12 && (eqb (length b) 12 && (eqb (length e) 8 && eqb (length out) 6)))
    (six_out out (residual_of (pose a) (pose b) (edge e)))
    (unfit_number, out)

-- ---- pgo_solve: the work has exactly n (n + 3) numbers; 1 where it failed

abbrev pub solved_out : List Float → List Float → Result ⊤ SolveError → ℕ × List Float
solved_out w left (Ok _) = (0, left)
solved_out w left (Err solve_error.Failed) = (1, left)
solved_out w left (Err solve_error.Short) = (unfit_number, w)

unfoldable pub solve_out : List Float → ℕ → Float → ℕ × List Float
solve_out w n d = if_then (eqb (length w) (need n)) (solved_out w (leaves w n d (solved_as w n d)) (solved_as w n d)) (unfit_number, w)
