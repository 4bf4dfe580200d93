-- How a proof goes by a transform or a pose that could be had, and by one that could not. Assumes nothing.
use Rattle.std.specs.Prelude.{Err, Ok, Result}
use mathlib.Core.Path.{◌≡◌}
use Rattle.numbers.specs.declared.Failure.{Failure}
use Rattle.rotations.specs.Formats.{Transform}
use Rattle.rotations.specs.declared.Pose.{Pose}
use Rattle.pose_conversion.specs.Conversions.{converting, restoring}

module _ {A : Type 0} {r : A} where
  pub into : {x : Result Transform Failure} (next : Transform → A) (failed : Failure → A) (a : Transform) → x ≡ Ok a → r ≡ next a → r ≡ converting x next failed
  unfolding converting
  into next failed a p q = rw p q

  pub not_into : {x : Result Transform Failure} (next : Transform → A) (failed : Failure → A) (why : Failure) → x ≡ Err why → r ≡ failed why → r ≡ converting x next failed
  unfolding converting
  not_into next failed why p q = rw p q

  pub restored_into : {x : Result Pose Failure} (next : Pose → A) (failed : Failure → A) (a : Pose) → x ≡ Ok a → r ≡ next a → r ≡ restoring x next failed
  unfolding restoring
  restored_into next failed a p q = rw p q

  pub not_restored : {x : Result Pose Failure} (next : Pose → A) (failed : Failure → A) (why : Failure) → x ≡ Err why → r ≡ failed why → r ≡ restoring x next failed
  unfolding restoring
  not_restored next failed why p q = rw p q
