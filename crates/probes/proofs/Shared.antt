-- The probes of a pose from what they share are the probes of `Probes`; and the probes of all shifts have one quaternion.
-- Assumes nothing.
use Rattle.std.specs.Prelude.{Err, None, Ok, Option, Result, Some}
use mathlib.Core.Path.{◌≡◌, sym, ap, ◌∙◌}
use mathlib.Core.Bool.{Bool, true, false, true≢false}
use Prim.Native.Nat.{ℕ, ◌<◌}
use native.Mathlib.Omega.{arith}
use borrow.Author.Tests.{lt-ltb}
use Rattle.numbers.specs.Notation.{if_then}
use Rattle.numbers.specs.declared.Failure.{Failure}
use Rattle.numbers.specs.declared.Failure.TheVariants.{Numerical}
use Rattle.rotations.specs.Formats.{Vec3, Vec3F32, QuatF32, Transform}
use Rattle.rotations.specs.declared.Pose.{Pose}
use Rattle.pose_conversion.specs.Conversions.{finite3, checked_transform}
use Rattle.graph.specs.Lent.{dof_of}
use Rattle.graph.specs.declared.Manifold.{Manifold}
use Rattle.graph.specs.declared.Manifold.TheVariants.{Se3, Gravity}
use Rattle.probes.specs.Probes.{probes_of}
use Rattle.probes.specs.Stances.{joined, probing_of, stance_of, probe_se3, probe_gravity, probe_by}
use Rattle.probes.specs.declared.Spin.{Spin}
use Rattle.probes.specs.declared.Stance.{Stance}
use Rattle.probes.specs.declared.Stance.TheVariants as stance
use Rattle.probes.proofs.Stepping.{exp_step_lem, finite_step_lem, finite_step_four}
use Rattle.probes.proofs.SharedSe3.{probe_se3_lem}
use Rattle.probes.proofs.SharedGravity.{probe_gravity_lem}

-- ---- a shift's quaternion

abbrev is_into : Result Transform Failure → Bool
is_into (Ok t) = true
is_into (Err why) = false

abbrev quat_in : QuatF32 → Result Transform Failure → QuatF32
quat_in q (Ok t) = t.q
quat_in q (Err why) = q

abbrev quat_by : QuatF32 → Option QuatF32 → QuatF32
quat_by q (Some r) = r
quat_by q None = q

none : {A : Type 0} (why : Failure) (t : Transform) → Err why ≡ Ok t → A
none why t e = absurd (true≢false (sym (ap is_into e)))

chosen : (b : Bool) (u t : Transform) → if_then b (Ok u) (Err Numerical) ≡ Ok t → u.q ≡ t.q
unfolding if_then
chosen true u t e = ap (quat_in u.q) e
chosen false u t e = none Numerical t e

joined_by : (s : Option QuatF32) (v : Vec3F32) (t : Transform) → joined s v ≡ Ok t → s ≡ Some t.q
unfolding joined
joined_by (Some q) v t e = ap Some (chosen (finite3 v.x v.y v.z) (record { q = q; t = v }) t e)
joined_by None v t e = none Numerical t e

gravity_by : (centre : Vec3) (y : Spin) (c : ℕ) (ahead : Bool) (t : Transform) → probe_gravity centre y c ahead ≡ Ok t → y.swing ≡ Some t.q
unfolding probe_gravity
gravity_by centre y c ahead t e = joined_by y.swing _ t e

-- the swing of every shift
abbrev shift_of : Result Stance Failure → Option QuatF32
shift_of (Ok (stance.Se3 at m shift)) = shift
shift_of (Ok (stance.Gravity centre still ahead behind)) = still.swing
shift_of (Err why) = None

shift_by : (x : Result Stance Failure) (c : ℕ) → c < 3 → (ahead : Bool) (t : Transform) → probe_by x c ahead ≡ Ok t → shift_of x ≡ Some t.q
unfolding probe_by probe_se3 if_then
shift_by (Ok (stance.Se3 at m shift)) c l ahead t e = joined_by shift _ t (rw (lt-ltb c 3 l) at e)
shift_by (Ok (stance.Gravity centre still front back)) c l ahead t e = gravity_by centre still c ahead t (rw (lt-ltb c 3 l) at e)
shift_by (Err why) c l ahead t e = none why t e

-- ---- for every manifold

pub probe_shared : (m : Manifold) (p : Pose) (c : ℕ) → c < dof_of m → (ahead : Bool)
    → probe_by (stance_of (probing_of m) p (checked_transform p)) c ahead ≡ probes_of m p c ahead
unfolding stance_of probing_of
probe_shared Se3 p c l ahead = probe_se3_lem c l ahead (exp_step_lem c l ahead) (finite_step_lem c l ahead) p
probe_shared (Gravity g) p c l ahead = probe_gravity_lem c l ahead (finite_step_four c l ahead) g p

shift_small : (m : Manifold) (c : ℕ) → c < 3 → c < dof_of m
shift_small Se3 c l = omega arith
shift_small (Gravity g) c l = omega arith

pub shifts_share : (m : Manifold) (p : Pose) (c d : ℕ) (s u : Bool) {t v : Transform} → c < 3 → d < 3
    → probes_of m p c s ≡ Ok t → probes_of m p d u ≡ Ok v → t.q ≡ v.q
shifts_share m p c d s u {t} {v} k l e f =
    let x = stance_of (probing_of m) p (checked_transform p) in
    let one : shift_of x ≡ Some t.q = shift_by x c k s t (probe_shared m p c (shift_small m c k) s ∙ e) in
    let other : shift_of x ≡ Some v.q = shift_by x d l u v (probe_shared m p d (shift_small m d l) u ∙ f) in
    ap (quat_by t.q) (sym one ∙ other)
