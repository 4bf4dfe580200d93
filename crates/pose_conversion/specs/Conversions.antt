-- A pose to a transform and back, as pose_conversion.rs has them, and the validated forms of sparse_pgo.rs; which number is narrowed where: document 01,
-- "Rotation arithmetic".
-- A matrix given back to a pose is narrowed, then widened (document 01, "Rotation arithmetic").
use Rattle.std.specs.Prelude.{Bool, ◌&&◌, Float, Err, Ok, Result}
use Rattle.std.specs.Float.Ieee.Scale.{finite}
use Rattle.numbers.specs.Notation.{if_then}
use Rattle.rounding.specs.Rounding.{narrowed}
use Rattle.numbers.specs.declared.Failure.{Failure}
use Rattle.numbers.specs.declared.Failure.TheVariants.{Numerical}
use Rattle.rotations.specs.Rotation.{vec, matrix_of, wide}
use Rattle.rotations.specs.FromMatrix.{quat_of_matrix}
use Rattle.rotations.specs.Formats.{Vec3, Vec3F32, Mat3, Mat3F32, Transform}
use Rattle.rotations.specs.declared.Pose.{Pose}

-- ---- vectors and matrices

unfoldable pub vec_f32 : Vec3 → Vec3F32
vec_f32 v = record { x = narrowed v.x; y = narrowed v.y; z = narrowed v.z }

-- an f32 is the same number as an f64
unfoldable pub vec_f64 : Vec3F32 → Vec3
vec_f64 v = vec v.x v.y v.z

unfoldable pub mat_f32 : Mat3 → Mat3F32
mat_f32 m = record { x = vec_f32 m.x; y = vec_f32 m.y; z = vec_f32 m.z }

unfoldable pub mat_f64 : Mat3F32 → Mat3
mat_f64 m = record { x = vec_f64 m.x; y = vec_f64 m.y; z = vec_f64 m.z }

-- ---- poses and transforms

unfoldable pub transform_of : Pose → Transform
transform_of p = record { q = quat_of_matrix (mat_f32 p.rotation); t = vec_f32 p.translation }

-- the matrix that a transform's quaternion stands for, in f64, then narrowed
unfoldable pub rebuilt : Transform → Mat3F32
rebuilt a = mat_f32 (matrix_of (wide a).q)

unfoldable pub pose_of : Transform → Pose
pose_of a = record { rotation = mat_f64 (rebuilt a); translation = vec_f64 a.t }

-- ---- validated: every number of a pose; the rebuilt matrix and the translation of a transform

abbrev pub finite3 : Float → Float → Float → Bool
finite3 x y z = finite x && (finite y && finite z)

unfoldable pub finite_pose : Pose → Bool
finite_pose p =
    let m = p.rotation in
    let t = p.translation in
    finite3 (m.x).x (m.x).y (m.x).z
    && (finite3 (m.y).x (m.y).y (m.y).z && (finite3 (m.z).x (m.z).y (m.z).z && finite3 t.x t.y t.z))

-- row 10 asks this of a measured transform, and no more (T13)
unfoldable pub finite_transform : Transform → Bool
finite_transform a =
    let m = rebuilt a in
    finite3 (m.x).x (m.x).y (m.x).z
    && (finite3 (m.y).x (m.y).y (m.y).z && (finite3 (m.z).x (m.z).y (m.z).z && finite3 (a.t).x (a.t).y (a.t).z))

unfoldable pub valid_transform : Transform → Result Transform Failure
valid_transform a = if_then (finite_transform a) (Ok a) (Err Numerical)

unfoldable pub valid_pose : Pose → Result Pose Failure
valid_pose p = if_then (finite_pose p) (Ok p) (Err Numerical)

-- sparse_pgo.rs's `pose_to_se3` and `se3_to_pose`
unfoldable pub checked_transform : Pose → Result Transform Failure
checked_transform p = if_then (finite_pose p) (valid_transform (transform_of p)) (Err Numerical)

unfoldable pub checked_pose : Transform → Result Pose Failure
checked_pose a = if_then (finite_transform a) (valid_pose (pose_of a)) (Err Numerical)

-- ---- what to do with the transform or the pose, and what with the reason where there is none

unfoldable pub converting : {A : Type 0} → Result Transform Failure → (Transform → A) → (Failure → A) → A
converting (Ok a) next failed = next a
converting (Err why) next failed = failed why

unfoldable pub restoring : {A : Type 0} → Result Pose Failure → (Pose → A) → (Failure → A) → A
restoring (Ok p) next failed = next p
restoring (Err why) next failed = failed why
