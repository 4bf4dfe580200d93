use mathlib.Core.Path.{refl}
use Rattle.numbers.proofs.Steps.{passed, turned_away}
use Rattle.probes.specs.Stances.{stance_of}
use Rattle.probes.proofs.stance_of.Goals as goal

pub returns-then-not-validate_pose : goal.returns-then-not-validate_pose
unfolding stance_of
returns-then-not-validate_pose c = rw c.in-Gravity.is (turned_away _ c.validate_pose.ensures c.if-not-validate_pose.true-raw refl)

pub returns-in-Se3 : goal.returns-in-Se3
unfolding stance_of
returns-in-Se3 c = rw c.in-Se3.is c.stance_se3.ensures

pub returns-else-not-validate_pose : goal.returns-else-not-validate_pose
unfolding stance_of
returns-else-not-validate_pose c =
    rw c.in-Gravity.is
    (passed _ c.validate_pose.ensures c.if-not-validate_pose.false-raw
    (rw (
      c.spin_of-in-Gravity-2.ensures,
      c.spin_of-in-Gravity.ensures,
      c.spin_of.ensures,
      c.negated.ensures,
      c.turn_vec.ensures,
      c.transposed.ensures,
    )))
