-- How a proof goes by an exp, of a turn or of a twist, that could be had, and by one that could not. Assumes nothing.
use Rattle.std.specs.Prelude.{None, Option, Some}
use mathlib.Core.Path.{◌≡◌}
use Rattle.rotations.specs.Formats.{Quat, Transform}
use Rattle.exp_log.specs.ExpLog.{turning, moving}

module _ {A : Type 0} {r : A} where
  pub turned_by_lem : {x : Option Quat} (next : Quat → A) (failed : A) (q : Quat) → x ≡ Some q → r ≡ next q → r ≡ turning x next failed
  unfolding turning
  turned_by_lem next failed q p e = rw p e

  pub not_turned : {x : Option Quat} {failed : A} (next : Quat → A) → x ≡ None → r ≡ failed → r ≡ turning x next failed
  unfolding turning
  not_turned next p e = rw p e

  pub moved_to : {x : Option Transform} (next : Transform → A) (failed : A) (m : Transform) → x ≡ Some m → r ≡ next m → r ≡ moving x next failed
  unfolding moving
  moved_to next failed m p e = rw p e

  pub not_moved : {x : Option Transform} {failed : A} (next : Transform → A) → x ≡ None → r ≡ failed → r ≡ moving x next failed
  unfolding moving
  not_moved next p e = rw p e
