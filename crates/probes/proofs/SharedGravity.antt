-- The probes with gravity from what they share: three rotations, and the pose's centre. Assumes nothing.
use Rattle.rotations.specs.Formats.{Quat, Vec3}
use Rattle.std.specs.Prelude.{Err, None, Option, Some}
use mathlib.Core.Path.{◌≡◌, refl, ap, ◌∙◌}
use mathlib.Core.Bool.{Bool, true, false}
use mathlib.Core.List.{List}
use Prim.Native.Nat.{ℕ, zero, suc, ◌<◌}
use native.Mathlib.Omega.{arith}
use lib.Dec.{ltb}
use lib.Ieee.{Float, neg}
use lib.Ieee.Scale.{finite}
use Rattle.numbers.specs.Notation.{num, if_then, number_at}
use Rattle.numbers.specs.Walks.{every}
use Rattle.numbers.specs.declared.Failure.TheVariants.{Numerical}
use Rattle.rotations.specs.Rotation.{vec, plus, minus, times, matrix_of, turned, mat_product, transpose}
use Rattle.exp_log.specs.ExpLog.{turn_of, turning}
use Rattle.rotations.specs.declared.Pose.{Pose}
use Rattle.pose_conversion.specs.Conversions.{finite_pose, valid_pose, checked_transform, restoring}
use Rattle.graph.specs.declared.Manifold.TheVariants.{Gravity}
use Rattle.retraction.specs.Retraction.{centre_of, turned_pose, retract_of, retract_gravity}
use Rattle.probes.specs.Probes.{eps, nudge, step_size, probe_of, probes_of}
use Rattle.probes.specs.Stances.{step_shift, joined, probing_of, spin_of, stance_of, probe_gravity, probe_by}
use Rattle.probes.proofs.PoseAgain.{pose_again}

-- ---- a step

-- the first three numbers of a step, and the fourth
shift_is : (c : ℕ) → c < 4 → (ahead : Bool)
    → step_shift c ahead ≡ vec (number_at (nudge c (step_size ahead)) 0) (number_at (nudge c (step_size ahead)) 1) (number_at (nudge c (step_size ahead)) 2)
unfolding step_shift if_then
shift_is zero l ahead = refl
shift_is (suc zero) l ahead = refl
shift_is (suc (suc zero)) l ahead = refl
shift_is (suc (suc (suc zero))) l ahead = refl
shift_is (suc (suc (suc (suc c)))) l ahead = absurd (omega arith)

fourth_is : {A : Type 0} (f : Float → A) (c : ℕ) → c < 4 → (ahead : Bool)
    → if_then (ltb c 3) (f (num 0)) (if_then ahead (f eps) (f (neg eps))) ≡ f (number_at (nudge c (step_size ahead)) 3)
unfolding if_then
fourth_is f zero l ahead = refl
fourth_is f (suc zero) l ahead = refl
fourth_is f (suc (suc zero)) l ahead = refl
fourth_is f (suc (suc (suc zero))) l true = refl
fourth_is f (suc (suc (suc zero))) l false = refl
fourth_is f (suc (suc (suc (suc c)))) l ahead = absurd (omega arith)

module _ (c : ℕ) (small : c < 4) (ahead : Bool) where
  abbrev δ : List Float
  δ = nudge c (step_size ahead)

  turned_probe : (p : Pose) (x : Option Quat)
      → probe_gravity (minus (turned (transpose p.rotation) p.translation)) (spin_of p.rotation x) c ahead
      ≡ restoring (turning x (λ q. valid_pose (turned_pose p (centre_of p δ) q)) (Err Numerical)) checked_transform Err
  unfolding probe_gravity spin_of turning centre_of turned_pose restoring joined
  turned_probe p None = refl
  turned_probe p (Some q) =
      rw (← shift_is c small ahead)
      (pose_again (mat_product p.rotation (matrix_of q))
      (minus (turned (mat_product p.rotation (matrix_of q)) (plus (minus (turned (transpose p.rotation) p.translation)) (step_shift c ahead)))))

  module _ (fin : every (λ j. finite (number_at δ j)) 4 ≡ true) (g : Vec3) (p : Pose) where
    from_spins : probe_gravity (minus (turned (transpose p.rotation) p.translation))
        (if_then (ltb c 3) (spin_of p.rotation (turn_of (times (neg (num 0)) g)))
        (if_then ahead (spin_of p.rotation (turn_of (times (neg eps) g))) (spin_of p.rotation (turn_of (times (neg (neg eps)) g)))))
        c ahead
        ≡ restoring (turning (turn_of (times (neg (number_at δ 3)) g)) (λ q. valid_pose (turned_pose p (centre_of p δ) q)) (Err Numerical))
        checked_transform Err
    from_spins =
        ap (λ y. probe_gravity (minus (turned (transpose p.rotation) p.translation)) y c ahead)
        (fourth_is (λ h. spin_of p.rotation (turn_of (times (neg h) g))) c small ahead)
        ∙ turned_probe p (turn_of (times (neg (number_at δ 3)) g))

    by_pose : (b : Bool) → finite_pose p ≡ b → probe_by (stance_of (probing_of (Gravity g)) p (checked_transform p)) c ahead ≡ probes_of (Gravity g) p c ahead
    unfolding probe_by stance_of probing_of probe_of retract_of retract_gravity restoring if_then
    by_pose true h = rw (h, fin) from_spins
    by_pose false h = rw h

    pub probe_gravity_lem : probe_by (stance_of (probing_of (Gravity g)) p (checked_transform p)) c ahead ≡ probes_of (Gravity g) p c ahead
    probe_gravity_lem = by_pose (finite_pose p) refl
