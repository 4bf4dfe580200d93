use Rattle.rotations.specs.Formats.{QuatF32, Quat}
use Rattle.std.specs.Prelude.{Option}
use mathlib.Core.Path.{◌≡◌, refl}
use mathlib.Core.Bool.{Bool, true, false}
use Prim.Native.Nat.{ℕ}
use lib.Dec.{ltb}
use Rattle.numbers.specs.Notation.{if_then}
use Rattle.exp_log.specs.declared.Both.{Both}
use Rattle.probes.specs.Stances.{step_quat, swung_by, swings_by, swings_at, probe_se3, probes_se3}
use Rattle.probes.proofs.probes_se3.Goals as goal

ahead_of : (b : Bool) (x y : Both (Option QuatF32)) → (if_then b x y).ahead ≡ if_then b x.ahead y.ahead
unfolding if_then
ahead_of true x y = refl
ahead_of false x y = refl

behind_of : (b : Bool) (x y : Both (Option QuatF32)) → (if_then b x y).behind ≡ if_then b x.behind y.behind
unfolding if_then
behind_of true x y = refl
behind_of false x y = refl

ahead_is : (q : Quat) (shift : Option QuatF32) (c : ℕ) → (swings_at q shift c).ahead ≡ if_then (ltb c 3) shift (swung_by q (step_quat c true))
unfolding swings_at swings_by
ahead_is q shift c = ahead_of (ltb c 3) _ _

behind_is : (q : Quat) (shift : Option QuatF32) (c : ℕ) → (swings_at q shift c).behind ≡ if_then (ltb c 3) shift (swung_by q (step_quat c false))
unfolding swings_at swings_by
behind_is q shift c = behind_of (ltb c 3) _ _

pub returns : goal.returns
unfolding probes_se3 probe_se3
returns c =
    let a = c.args in
    rw (
      c.join-2.ensures,
      c.join.ensures,
      c.swings_at-swings.ensures,
      c.vec3_to_f32-b.ensures,
      c.vec3_to_f32-a.ensures,
      c.sum_of-b.ensures,
      c.turn_vec-2.ensures,
      c.step_shift-2.ensures,
      c.sum_of-a.ensures,
      c.turn_vec.ensures,
      c.step_shift.ensures,
      ahead_is a.at.q a.shift a.c,
      behind_is a.at.q a.shift a.c,
    )
