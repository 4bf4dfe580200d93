-- A float rounded to a format, over the values of `lib.Ieee`: document 01, "Rotation arithmetic", narrowing. Definitions only.
use Rattle.std.specs.Prelude.{◌*◌, Float}
use Rattle.std.specs.Float.{nan, inf, fin, Format, binary32}
use Rattle.std.specs.Float.Ieee.{up, down, round}

-- x at the format f: the nearest of its values, a tie to the even one, an infinity from 2 ^ (emax + 1) less half a last place on; what that means is
-- `RoundsTo` of numbers, and that it is so `rounded_is_nearest` (proofs/Believe)
unfoldable pub rounded : Format → Float → Float
unfolding round
rounded f nan = nan
rounded f (inf s) = inf s
rounded f (fin s m e) = round f s (m * up e) (down e)

-- an f64 as an f32, as the definitions above this crate name it
abbrev pub narrowed : Float → Float
narrowed x = rounded binary32 x
