-- Why `rounded` may be believed: it is the value of the format that is nearest to the number, a tie to the even one, and an infinity where IEEE 754 has one.
-- NaN and the infinities stay what they are. Assumes nothing.
use Rattle.std.proofs.Common.{◌≡◌, ℕ, ◌*◌, Bool, ℤ, pos, refl, ◌∙◌, zero-lt-suc, zero-mul, mul-one}
use lib.Ieee.{nan, inf, fin, Format, binary32, binary64, up, down, round}
use lib.Ieee.Fits.{down_pos}
use lib.Ieee.Scale.{round_same}
use Rattle.numbers.specs.Rounds.{fraction, RoundsTo}
use Rattle.numbers.proofs.Rounds.{round_is_nearest}
use Rattle.rounding.specs.Rounding.{rounded}

pub rounded_is_nearest : (f : Format) (s : Bool) (m : ℕ) (e : ℤ) → RoundsTo f s (fraction (m * up e) (down e)) (rounded f (fin s m e))
unfolding rounded
rounded_is_nearest f s m e = round_is_nearest f s (m * up e) (down e) (down_pos e)

pub rounded_nan : (f : Format) → rounded f nan ≡ nan
unfolding rounded
rounded_nan f = refl

pub rounded_infinite : (f : Format) (s : Bool) → rounded f (inf s) ≡ inf s
unfolding rounded
rounded_infinite f s = refl

round_zero : (f : Format) (s : Bool) → round f s 0 1 ≡ fin s 0 (pos 0)
unfolding round
round_zero binary32 s = refl
round_zero binary64 s = refl

pub rounded_zero : (f : Format) (s : Bool) (e : ℤ) → rounded f (fin s 0 e) ≡ fin s 0 (pos 0)
unfolding rounded
rounded_zero f s e = round_same f s (0 * up e) (down e) 0 1 (down_pos e) (zero-lt-suc 0) (simp (mul-one, zero-mul)) ∙ round_zero f s
