-- A value that a format holds is its own rounding to it. Assumes nothing.
use Rattle.std.proofs.Common.{◌≡◌, ℕ, suc, ◌+◌, ◌*◌, ◌^◌, ◌<◌, ◌≤◌, Bool, T, ℤ, sym, refl, ◌∙◌, lt_of_lt_of_le, pow_pos, pow_mono, shl_lt}
use lib.Ieee.{Float, nan, inf, fin, Format, prec, emax, low, up, down, fits, round}
use lib.Ieee.Fits.{round-fits}
use lib.Ieee.Exact.{HasValue, round_exact}
use Rattle.rounding.specs.Rounding.{rounded}
use Rattle.numbers.proofs.Write.{value_bits}
use Rattle.numbers.proofs.Counts.{counted}
use Rattle.rounding.proofs.Fractions.{rounded_at}

-- q * 2 ^ j smallest values, q of no more digits than the format keeps
units_own : (f : Format) (x : Float) (s : Bool) (q j : ℕ) → T (fits f x) → HasValue x s (q * 2 ^ j) (2 ^ low f) → q < 2 ^ prec f → prec f + j ≤ low f + suc (emax f) → rounded f x ≡ x
units_own f x s q j F h small room =
    let n = q * 2 ^ j in
    let c = 2 ^ low f in
    rounded_at f x s n c (pow_pos (low f)) h
    ∙ value_bits f (round f s n c) s n (round-fits f s n c)
    (round_exact f s n c q j (pow_pos (low f)) small (lt_of_lt_of_le (shl_lt (prec f) j small) (pow_mono room)) refl)
    ∙ sym (value_bits f x s n F h)

fin_own : (f : Format) (s : Bool) (m : ℕ) (e : ℤ) → T (fits f (fin s m e)) → rounded f (fin s m e) ≡ fin s m e
fin_own f s m e F =
    let c = counted f s (fin s m e) (refl, F) in
    units_own f (fin s m e) s c.digits c.dropped F c.value c.small c.room

pub rounded_own : (f : Format) (x : Float) → T (fits f x) → rounded f x ≡ x
unfolding rounded
rounded_own f nan F = refl
rounded_own f (inf s) F = refl
rounded_own f (fin s m e) F = fin_own f s m e F

-- rounded twice is rounded once
pub rounded_twice : (f : Format) (x : Float) → rounded f (rounded f x) ≡ rounded f x
unfolding rounded
rounded_twice f nan = refl
rounded_twice f (inf s) = refl
rounded_twice f (fin s m e) = rounded_own f (round f s (m * up e) (down e)) (round-fits f s (m * up e) (down e))
