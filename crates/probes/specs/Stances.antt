-- The probes of a pose from what they share. `proofs/Shared` says that they are those of `Probes`. Definitions only.
use Rattle.numbers.specs.declared.Failure.{Failure}
use Rattle.std.specs.Prelude.{ℕ, Bool, true, false, ◌&&◌, eqb, ltb, Err, None, Ok, Option, Result, Some}
use Rattle.std.specs.Float.Ieee.{neg}
use Rattle.numbers.specs.Notation.{num, ratio32, if_then}
use Rattle.numbers.specs.declared.Failure.TheVariants.{Numerical}
use Rattle.rotations.specs.Rotation.{vec, plus, minus, times, matrix_of, turned, mat_product, transpose, quat_product, wide, rounded_quat}
use Rattle.rotations.specs.FromMatrix.{quat_of_matrix}
use Rattle.exp_log.specs.ExpLog.{turn_of, turning}
use Rattle.rotations.specs.Formats.{Vec3, Vec3F32, Mat3, Mat3F32, Quat, QuatF32, Transform, Rigid}
use Rattle.rotations.specs.declared.Pose.{Pose}
use Rattle.pose_conversion.specs.Conversions.{finite3, finite_pose, vec_f32, mat_f32, rebuilt, converting}
use Rattle.graph.specs.declared.Manifold.{Manifold}
use Rattle.graph.specs.declared.Manifold.TheVariants as manifold
use Rattle.probes.specs.Probes.{eps, step_size}
use Rattle.probes.specs.declared.Probing.{Probing}
use Rattle.probes.specs.declared.Probing.TheVariants as probing
use Rattle.exp_log.specs.declared.Both.{Both}
use Rattle.probes.specs.declared.Spin.{Spin}
use Rattle.probes.specs.declared.Stance.{Stance}
use Rattle.probes.specs.declared.Stance.TheVariants as stance

-- ---- the steps

-- exp of a step along axis c: its quaternion, which is that of no turn for a shift, and its translation, which is the step's own
unfoldable pub step_quat : ℕ → Bool → Quat
step_quat c ahead =
    let s = if_then ahead (ratio32 1 2000) (neg (ratio32 1 2000)) in
    record {
      x = if_then (eqb c 3) s (num 0);
      y = if_then (eqb c 4) s (num 0);
      z = if_then (eqb c 5) s (num 0);
      w = if_then (ltb c 3) (num 1) (if_then (ltb c 6) (ratio32 9999999 10000000) (num 1));
    }

unfoldable pub step_shift : ℕ → Bool → Vec3
step_shift c ahead =
    let s = step_size ahead in vec (if_then (eqb c 0) s (num 0)) (if_then (eqb c 1) s (num 0)) (if_then (eqb c 2) s (num 0))

-- both as a transform
abbrev pub step_by : ℕ → Bool → Transform
step_by c ahead =
    let q = step_quat c ahead in
    let t = step_shift c ahead in
    record { q = record { x = q.x; y = q.y; z = q.z; w = q.w }; t = record { x = t.x; y = t.y; z = t.z } }

-- ---- a probe's quaternion, and the probe with its translation

unfoldable pub finite_matrix : Mat3F32 → Bool
finite_matrix m = finite3 (m.x).x (m.x).y (m.x).z && (finite3 (m.y).x (m.y).y (m.y).z && finite3 (m.z).x (m.z).y (m.z).z)

-- a transform that doesn't move
abbrev pub turned_by : QuatF32 → Transform
turned_by q = record { q = q; t = record { x = num 0; y = num 0; z = num 0 } }

-- a quaternion, whose matrix m must be finite
unfoldable pub swing_of : QuatF32 → Mat3F32 → Option QuatF32
swing_of q m = if_then (finite_matrix m) (Some q) None

-- the quaternion of a rotation; its matrix must be finite, and then the rotation is
unfoldable pub settled_by : Mat3F32 → Option QuatF32
settled_by m = let q = quat_of_matrix m in swing_of q (rebuilt (turned_by q))

unfoldable pub swung_by : Quat → Quat → Option QuatF32
swung_by q e = settled_by (mat_f32 (matrix_of (rounded_quat (quat_product q e))))

-- of the steps ahead and behind along axis c
unfoldable pub swings_by : Quat → ℕ → Both (Option QuatF32)
swings_by q c = record { ahead = swung_by q (step_quat c true); behind = swung_by q (step_quat c false) }

unfoldable pub swings_at : Quat → Option QuatF32 → ℕ → Both (Option QuatF32)
swings_at q shift c = if_then (ltb c 3) (record { ahead = shift; behind = shift }) (swings_by q c)

unfoldable pub joined : Option QuatF32 → Vec3F32 → Result Transform Failure
joined (Some q) t = if_then (finite3 t.x t.y t.z) (Ok (record { q = q; t = t })) (Err Numerical)
joined None t = Err Numerical

-- ---- what is shared

-- once an assembly: exp of the turns of gravity's probes, −δ₄ g
unfoldable pub probing_of : Manifold → Probing
probing_of manifold.Se3 = probing.Se3
probing_of (manifold.Gravity g) =
    probing.Gravity (turn_of (times (neg (num 0)) g)) (turn_of (times (neg eps) g)) (turn_of (times (neg (neg eps)) g))

-- a rotation turned by a probe's turn
unfoldable pub spin_of : Mat3 → Option Quat → Spin
spin_of r turn =
    turning turn
    (λ q. let m = mat_product r (matrix_of q) in record { rotation = m; swing = settled_by (mat_f32 m) })
    (record { rotation = r; swing = None })

-- once a free pose
unfoldable pub stance_se3 : Result Transform Failure → Result Stance Failure
stance_se3 base =
    converting base
    (λ a. let at = wide a in Ok (stance.Se3 at (matrix_of at.q) (swung_by at.q (step_quat 0 true))))
    Err

unfoldable pub stance_of : Probing → Pose → Result Transform Failure → Result Stance Failure
stance_of probing.Se3 p base = stance_se3 base
stance_of (probing.Gravity still ahead behind) p base =
    let r = p.rotation in
    if_then (finite_pose p)
    (Ok (stance.Gravity (minus (turned (transpose r) p.translation)) (spin_of r still) (spin_of r ahead) (spin_of r behind)))
    (Err Numerical)

-- ---- the probes

unfoldable pub probe_se3 : Rigid → Mat3 → Option QuatF32 → ℕ → Bool → Result Transform Failure
probe_se3 at m shift c ahead =
    joined (if_then (ltb c 3) shift (swung_by at.q (step_quat c ahead))) (vec_f32 (plus (turned m (step_shift c ahead)) at.t))

unfoldable pub probes_se3 : Rigid → Mat3 → Option QuatF32 → ℕ → Both (Result Transform Failure)
probes_se3 at m shift c = record { ahead = probe_se3 at m shift c true; behind = probe_se3 at m shift c false }

unfoldable pub probe_gravity : Vec3 → Spin → ℕ → Bool → Result Transform Failure
probe_gravity centre spin c ahead = joined spin.swing (vec_f32 (minus (turned spin.rotation (plus centre (step_shift c ahead)))))

unfoldable pub probes_gravity : Vec3 → Spin → Spin → ℕ → Both (Result Transform Failure)
probes_gravity centre a b c = record { ahead = probe_gravity centre a c true; behind = probe_gravity centre b c false }

unfoldable pub probe_by : Result Stance Failure → ℕ → Bool → Result Transform Failure
probe_by (Ok (stance.Se3 at m shift)) c ahead = probe_se3 at m shift c ahead
probe_by (Ok (stance.Gravity centre still front back)) c ahead = probe_gravity centre (if_then (ltb c 3) still (if_then ahead front back)) c ahead
probe_by (Err why) c ahead = Err why

unfoldable pub probes_by : Result Stance Failure → ℕ → Both (Result Transform Failure)
probes_by s c = record { ahead = probe_by s c true; behind = probe_by s c false }
