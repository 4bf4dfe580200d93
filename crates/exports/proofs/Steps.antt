-- A step of a pose as an array of six, and poses and edges of a list that holds one. Assumes nothing.
use mathlib.Core.Path.{◌≡◌, refl}
use mathlib.Core.List.{List}
use Prim.Native.Nat.{ℕ, ◌+◌, ◌*◌, ◌<◌, ◌≤◌}
use native.Mathlib.Nat.{mul-le-mul_left}
use native.Mathlib.Omega.{arith}
use lib.Ieee.{Float}
use Rattle.numbers.specs.Walks.{every}
use Rattle.rotations.specs.declared.Pose.{Pose}
use Rattle.graph.specs.Lent.{pose_from, pose_at, edge_from, edge_at}
use Rattle.graph.specs.declared.Manifold.{Manifold}
use Rattle.graph.specs.declared.Manifold.TheVariants.{Se3, Gravity}
use Rattle.retraction.specs.Retraction.{retract_se3, centre_of, retract_gravity, retract_of}
use Rattle.profile.specs.Layout.{need}
use Rattle.exports.specs.Layers.{first_six, pose, edge}

pub first_six_do : (m : Manifold) (p : Pose) (l : List Float) → retract_of m p (first_six l) ≡ retract_of m p l
unfolding retract_of retract_se3 retract_gravity centre_of every
first_six_do Se3 p l = refl
first_six_do (Gravity g) p l = refl

pub one_pose_lem : (l : List Float) → pose_at l 0 ≡ pose l
unfolding pose_from
one_pose_lem l = refl

pub one_edge_lem : (l : List Float) → edge_at l 0 ≡ edge l
unfolding edge_from
one_edge_lem l = refl

-- a work of n (n + 3) numbers: for an n below 2^31 the count fits, and no list in memory is as long as for another
pub count_fits : (n : ℕ) → n < 2147483648 → need n < 18446744073709551616
count_fits n h =
    let m : n * (n + 3) ≤ n * 2147483651 = mul-le-mul_left n (omega arith) in omega arith

pub no_such_work : (l n : ℕ) → 2147483648 ≤ n → l * 4 < 9223372036854775808 → l ≡ need n → ⊥
no_such_work l n h f e =
    let m : n * 2147483648 ≤ n * (n + 3) = mul-le-mul_left n (omega arith) in omega arith
