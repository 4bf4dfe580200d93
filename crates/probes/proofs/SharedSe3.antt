-- The probes of Se3 from what they share. A transform made a pose and turned back keeps its translation, and has the quaternion of its rebuilt matrix.
-- Assumes nothing.
use Rattle.numbers.specs.declared.Failure.{Failure}
use Rattle.std.specs.Prelude.{Err, Ok, Result, Some}
use mathlib.Core.Path.{◌≡◌, refl, sym, ap, ◌∙◌}
use mathlib.Core.Bool.{Bool, true, false, true≢false}
use mathlib.Core.List.{List}
use Prim.Native.Nat.{ℕ, zero, suc, ◌<◌}
use native.Mathlib.Omega.{arith}
use lib.Dec.{ltb}
use lib.Ieee.{Float, binary32}
use lib.Ieee.Scale.{finite}
use Rattle.numbers.specs.Notation.{if_then, number_at}
use Rattle.numbers.specs.Walks.{every}
use Rattle.numbers.specs.declared.Failure.TheVariants.{Numerical}
use Rattle.rotations.specs.Rotation.{vec, plus, matrix_of, turned, quat_product, wide, finished, rounded_quat, product}
use Rattle.exp_log.specs.ExpLog.{exp_of, moving}
use Rattle.rotations.specs.Formats.{Mat3, Transform, Rigid}
use Rattle.rotations.specs.declared.Pose.{Pose}
use Rattle.pose_conversion.specs.Conversions.{vec_f32, vec_f64, mat_f32, mat_f64, rebuilt, pose_of, finite_pose, finite_transform}
use Rattle.pose_conversion.specs.Conversions.{valid_pose, checked_transform, checked_pose, converting, restoring}
use Rattle.graph.specs.declared.Manifold.TheVariants.{Se3}
use Rattle.retraction.specs.Retraction.{retract_of, retract_se3}
use Rattle.probes.specs.Probes.{nudge, step_size, probe_of, probes_of}
use Rattle.probes.specs.Stances.{step_quat, step_shift, step_by, settled_by, swung_by, joined, stance_se3, probe_se3, probe_by}
use Rattle.rounding.proofs.Own.{rounded_twice}
use Rattle.probes.proofs.PoseAgain.{pose_again}

-- ---- numbers narrowed once stay what they are

narrow_translation : (r : Rigid) → vec_f32 (vec_f64 (finished r).t) ≡ (finished r).t
unfolding vec_f32 vec_f64 finished
narrow_translation r = rw (rounded_twice binary32 (r.t).x, rounded_twice binary32 (r.t).y, rounded_twice binary32 (r.t).z)

narrow_matrix : (m : Mat3) → mat_f32 (mat_f64 (mat_f32 m)) ≡ mat_f32 m
unfolding mat_f32 mat_f64 vec_f32 vec_f64
narrow_matrix m =
    rw (
      rounded_twice binary32 (m.x).x,
      rounded_twice binary32 (m.x).y,
      rounded_twice binary32 (m.x).z,
      rounded_twice binary32 (m.y).x,
      rounded_twice binary32 (m.y).y,
      rounded_twice binary32 (m.y).z,
      rounded_twice binary32 (m.z).x,
      rounded_twice binary32 (m.z).y,
      rounded_twice binary32 (m.z).z,
    )

-- ---- a transform to a pose and back

tested_twice : {A : Type 0} (b : Bool) (x y : A) → if_then b (if_then b x y) y ≡ if_then b x y
unfolding if_then
tested_twice true x y = refl
tested_twice false x y = refl

-- the tests of a transform's pose are its own
checked_once : (a : Transform) → checked_pose a ≡ valid_pose (pose_of a)
unfolding checked_pose valid_pose finite_pose finite_transform pose_of mat_f64 vec_f64
checked_once a = tested_twice (finite_transform a) (Ok (pose_of a)) (Err Numerical)

settled_again : (r : Rigid)
    → joined (settled_by (rebuilt (finished r))) (finished r).t ≡ restoring (checked_pose (finished r)) checked_transform Err
unfolding pose_of rebuilt
settled_again r =
    let b = finished r in
    rw (checked_once b) (rw (narrow_matrix (matrix_of (wide b).q), narrow_translation r) at (pose_again (mat_f64 (rebuilt b)) (vec_f64 b.t)))

-- ---- one step from a transform

module _ (a : Transform) (c : ℕ) (ahead : Bool) where
  -- not narrowed yet
  abbrev reached : Rigid
  reached =
      record {
        q = quat_product (wide a).q (step_quat c ahead);
        t = plus (turned (matrix_of (wide a).q) (step_shift c ahead)) (wide a).t;
      }

  product_is : product a (step_by c ahead) ≡ finished reached
  unfolding product wide
  product_is = refl

  rebuilt_is : rebuilt (finished reached) ≡ mat_f32 (matrix_of (rounded_quat (quat_product (wide a).q (step_quat c ahead))))
  unfolding rebuilt wide finished rounded_quat
  rebuilt_is = refl

  translation_is : (finished reached).t ≡ vec_f32 (plus (turned (matrix_of (wide a).q) (step_shift c ahead)) (wide a).t)
  unfolding finished vec_f32
  translation_is = refl

  stepped : joined (swung_by (wide a).q (step_quat c ahead)) (vec_f32 (plus (turned (matrix_of (wide a).q) (step_shift c ahead)) (wide a).t))
      ≡ restoring (checked_pose (product a (step_by c ahead))) checked_transform Err
  unfolding swung_by
  stepped = rw (product_is, ← rebuilt_is, ← translation_is) (settled_again reached)

-- ---- all shifts have one quaternion

same_shift : (c : ℕ) → c < 6 → (ahead : Bool) → ltb c 3 ≡ true → step_quat 0 true ≡ step_quat c ahead
unfolding step_quat if_then
same_shift zero l ahead h = refl
same_shift (suc zero) l ahead h = refl
same_shift (suc (suc zero)) l ahead h = refl
same_shift (suc (suc (suc zero))) l ahead h = absurd (true≢false (sym h))
same_shift (suc (suc (suc (suc zero)))) l ahead h = absurd (true≢false (sym h))
same_shift (suc (suc (suc (suc (suc zero))))) l ahead h = absurd (true≢false (sym h))
same_shift (suc (suc (suc (suc (suc (suc c)))))) l ahead h = absurd (omega arith)

either : {A : Type 0} (b : Bool) {x y : A} → (b ≡ true → x ≡ y) → if_then b x y ≡ y
unfolding if_then
either true h = h refl
either false h = refl

module _ (c : ℕ) (small : c < 6) (ahead : Bool) where
  abbrev δ : List Float
  δ = nudge c (step_size ahead)

  module _ (step : exp_of (vec (number_at δ 0) (number_at δ 1) (number_at δ 2)) (vec (number_at δ 3) (number_at δ 4) (number_at δ 5)) ≡ Some (step_by c ahead))
      (fin : every (λ j. finite (number_at δ j)) 6 ≡ true) where
    probe_from : (x : Result Transform Failure)
        → probe_by (stance_se3 x) c ahead ≡ restoring (converting x (λ a. checked_pose (product a (step_by c ahead))) Err) checked_transform Err
    unfolding probe_by probe_se3 stance_se3 converting restoring
    probe_from (Err why) = refl
    probe_from (Ok a) =
        ap (λ s. joined s (vec_f32 (plus (turned (matrix_of (wide a).q) (step_shift c ahead)) (wide a).t)))
        (either (ltb c 3) (λ h. ap (swung_by (wide a).q) (same_shift c small ahead h)))
        ∙ stepped a c ahead

    pub probe_se3_lem : (p : Pose) → probe_by (stance_se3 (checked_transform p)) c ahead ≡ probes_of Se3 p c ahead
    unfolding probe_of retract_of retract_se3 if_then moving
    probe_se3_lem p = rw (fin, step) (probe_from (checked_transform p))
