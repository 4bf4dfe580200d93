-- A pose that is checked, and its transform: the quaternion of its rotation and its narrowed translation, joined, each with a test of its own.
-- Assumes nothing.
use Rattle.numbers.specs.declared.Failure.{Failure}
use Rattle.rotations.specs.Formats.{Transform, Vec3, Vec3F32, Mat3, Mat3F32, QuatF32}
use Rattle.std.specs.Prelude.{Err, None, Ok, Result, Some}
use mathlib.Core.Path.{◌≡◌, refl, sym}
use mathlib.Core.Bool.{Bool, true, false, ◌&&◌, true≢false}
use Rattle.numbers.specs.Notation.{if_then}
use Rattle.numbers.specs.declared.Failure.TheVariants.{Numerical}
use Rattle.rotations.specs.Rotation.{wide}
use Rattle.rotations.specs.FromMatrix.{quat_of_matrix}
use Rattle.rotations.specs.declared.Pose.{Pose}
use Rattle.pose_conversion.specs.Conversions.{vec_f32, mat_f32, transform_of, rebuilt, finite3, finite_pose, finite_transform}
use Rattle.pose_conversion.specs.Conversions.{valid_transform, valid_pose, checked_transform, restoring}
use Rattle.probes.specs.Stances.{finite_matrix, turned_by, swing_of, settled_by, joined}
use Rattle.probes.proofs.FiniteParts.{finite_again, vector_first, matrix_first}

-- the nine numbers of a matrix, then the three of a translation
and_regroup : (a b c d : Bool) → (a && (b && (c && d))) ≡ ((a && (b && c)) && d)
and_regroup true true c d = refl
and_regroup true false c d = refl
and_regroup false b c d = refl

transform_finite : (q : QuatF32) (t : Vec3F32)
    → finite_transform (record { q = q; t = t }) ≡ (finite_matrix (rebuilt (turned_by q)) && finite3 t.x t.y t.z)
unfolding finite_transform finite_matrix rebuilt wide
transform_finite q t = go (rebuilt (turned_by q))
  where
    go : (m : Mat3F32)
        → (finite3 (m.x).x (m.x).y (m.x).z && (finite3 (m.y).x (m.y).y (m.y).z && (finite3 (m.z).x (m.z).y (m.z).z && finite3 t.x t.y t.z)))
        ≡ ((finite3 (m.x).x (m.x).y (m.x).z && (finite3 (m.y).x (m.y).y (m.y).z && finite3 (m.z).x (m.z).y (m.z).z)) && finite3 t.x t.y t.z)
    go m = and_regroup (finite3 (m.x).x (m.x).y (m.x).z) (finite3 (m.y).x (m.y).y (m.y).z) (finite3 (m.z).x (m.z).y (m.z).z) (finite3 t.x t.y t.z)

-- m: the matrix is finite; d: the translation is; k: the matrix of its quaternion is; e: the narrowed translation is
by_tests : (m d k e : Bool) (f : Pose → Result Transform Failure) {p : Pose} (q : QuatF32) (t : Vec3F32) → (k ≡ true → m ≡ true) → (e ≡ true → d ≡ true)
    → finite3 t.x t.y t.z ≡ e
    → f p ≡ if_then (m && d) (if_then (k && e) (Ok (record { q = q; t = t })) (Err Numerical)) (Err Numerical)
    → joined (if_then k (Some q) None) t ≡ restoring (if_then (m && d) (Ok p) (Err Numerical)) f Err
unfolding restoring if_then joined
by_tests true true true e f q t h j i g = rw (i, g)
by_tests true true false e f q t h j i g = rw g
by_tests true false true true f q t h j i g = absurd (true≢false (sym (j refl)))
by_tests true false true false f q t h j i g = rw i
by_tests true false false e f q t h j i g = refl
by_tests false d true e f q t h j i g = absurd (true≢false (sym (h refl)))
by_tests false d false e f q t h j i g = refl

module _ (m : Mat3) (t : Vec3) where
  abbrev matrix_finite : Bool
  matrix_finite = finite3 (m.x).x (m.x).y (m.x).z && (finite3 (m.y).x (m.y).y (m.y).z && finite3 (m.z).x (m.z).y (m.z).z)

  abbrev pose : Pose
  pose = record { rotation = m; translation = t }

  pose_finite : finite_pose pose ≡ (matrix_finite && finite3 t.x t.y t.z)
  unfolding finite_pose
  pose_finite =
      and_regroup (finite3 (m.x).x (m.x).y (m.x).z) (finite3 (m.y).x (m.y).y (m.y).z) (finite3 (m.z).x (m.z).y (m.z).z) (finite3 t.x t.y t.z)

  abbrev swung : QuatF32
  swung = quat_of_matrix (mat_f32 m)

  abbrev there : Vec3F32
  there = vec_f32 t

  transform_is : checked_transform pose
      ≡ if_then (matrix_finite && finite3 t.x t.y t.z)
      (if_then (finite_matrix (rebuilt (turned_by swung)) && finite3 there.x there.y there.z)
      (Ok (record { q = swung; t = there })) (Err Numerical))
      (Err Numerical)
  unfolding checked_transform valid_transform transform_of
  transform_is = rw (pose_finite, transform_finite swung there)

  pub pose_again : joined (settled_by (mat_f32 m)) there ≡ restoring (valid_pose pose) checked_transform Err
  unfolding valid_pose settled_by swing_of
  pose_again =
      rw pose_finite
      (by_tests matrix_finite (finite3 t.x t.y t.z) (finite_matrix (rebuilt (turned_by swung)))
      (finite3 there.x there.y there.z) checked_transform swung there (λ h. matrix_first m (finite_again (mat_f32 m) h)) (vector_first t)
      refl transform_is)
