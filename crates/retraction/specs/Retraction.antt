-- Retraction on each manifold: document 01, "Graph, residual, assembly", last paragraph. Any non-finite result fails. Definitions only.
-- A step δ of a pose is a list whose first DOF numbers count.
use Rattle.numbers.specs.declared.Failure.{Failure}
use Rattle.std.specs.Prelude.{◌&&◌, List, Float, Err, Result}
use Rattle.std.specs.Float.Ieee.{neg}
use Rattle.std.specs.Float.Ieee.Scale.{finite}
use Rattle.numbers.specs.Notation.{if_then, number_at}
use Rattle.numbers.specs.Walks.{every}
use Rattle.numbers.specs.declared.Failure.TheVariants.{Numerical}
use Rattle.rotations.specs.Rotation.{vec, plus, minus, times, turned, matrix_of, mat_product, transpose, product, unit_vec}
use Rattle.exp_log.specs.ExpLog.{turn_of, turning, exp_of, moving}
use Rattle.rotations.specs.Formats.{Vec3, Quat}
use Rattle.rotations.specs.declared.Pose.{Pose}
use Rattle.pose_conversion.specs.Conversions.{finite_pose, valid_pose, checked_transform, checked_pose, converting}
use Rattle.graph.specs.declared.Manifold.{Manifold}
use Rattle.graph.specs.declared.Manifold.TheVariants.{Se3, Gravity}

-- ---- DOF 6: transform · exp(δ), translation first in δ

unfoldable pub retract_se3 : Pose → List Float → Result Pose Failure
retract_se3 p δ =
    if_then (every (λ j. finite (number_at δ j)) 6)
    (converting (checked_transform p)
    (λ a. moving (exp_of (vec (number_at δ 0) (number_at δ 1) (number_at δ 2)) (vec (number_at δ 3) (number_at δ 4) (number_at δ 5)))
    (λ e. checked_pose (product a e))
    (Err Numerical)) Err)
    (Err Numerical)

-- ---- DOF 4: the centre −Rᵀt moves by δ's first three; the rotation is R · exp(−δ₄ g), g unit gravity; the translation −(rotation · centre) (C2)

unfoldable pub centre_of : Pose → List Float → Vec3
centre_of p δ = plus (minus (turned (transpose p.rotation) p.translation)) (vec (number_at δ 0) (number_at δ 1) (number_at δ 2))

unfoldable pub turned_pose : Pose → Vec3 → Quat → Pose
turned_pose p centre q =
    let r = mat_product p.rotation (matrix_of q) in record { rotation = r; translation = minus (turned r centre) }

unfoldable pub retract_gravity : Vec3 → Pose → List Float → Result Pose Failure
retract_gravity g p δ =
    if_then (finite_pose p && every (λ j. finite (number_at δ j)) 4)
    (turning (turn_of (times (neg (number_at δ 3)) g))
    (λ q. valid_pose (turned_pose p (centre_of p δ) q))
    (Err Numerical))
    (Err Numerical)

-- ---- both

unfoldable pub retract_of : Manifold → Pose → List Float → Result Pose Failure
retract_of Se3 p δ = retract_se3 p δ
retract_of (Gravity g) p δ = retract_gravity g p δ

-- gravity divided by its length (C12)
unfoldable pub unit_of : Manifold → Manifold
unit_of Se3 = Se3
unit_of (Gravity g) = Gravity (unit_vec g)
