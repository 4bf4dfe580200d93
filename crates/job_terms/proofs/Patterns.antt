-- Which patterns are a NaN's, and the settings of single patterns, computed. Assumes nothing.
use Prim.Native.Nat.{ℕ, ◌*◌, ◌%◌, ◌<◌}
use native.Mathlib.Omega.{arith}
use mathlib.Core.Path.{◌≡◌, refl, sym, ◌∙◌}
use mathlib.Core.Bool.{true}
use borrow.Author.Tests.{lt-ltb}
use lib.Ieee.{Float, nan, inf, fin, Format, hid, ones, top, is_nan, of_bits, of_fields, odd, binary32, round}
use lib.Ieee.Bits.{nan_bits_is, nan_bits_above}
use Rattle.numbers.specs.Notation.{num, ratio}
use Rattle.job_terms.specs.Terms.{settings_as}

pub nan_of : (f : Format) (n : ℕ) → ones f * hid f < n % top f → nan ≡ of_bits f n
unfolding is_nan
nan_of f n h = sym (go (of_bits f n) (sym (nan_bits_is f n) ∙ (nan_bits_above f n ∙ lt-ltb (ones f * hid f) (n % top f) h)))
  where
    go : (x : Float) → is_nan x ≡ true → x ≡ nan
    go nan e = refl
    go (inf s) e = absurd (let y : ◌≡◌ {A = ℕ} 0 1 = cc in omega arith)
    go (fin s m k) e = absurd (let y : ◌≡◌ {A = ℕ} 0 1 = cc in omega arith)

pub nan32 : of_bits binary32 2143289344 ≡ nan
unfolding of_bits of_fields odd
nan32 = refl

-- each setting is the job's own: limit 3, tolerances 1 and 2, damping 4
settings_as_lem :
    settings_as (record { limit = 3; cost_tolerance = 0x3f80_0000; gradient_tolerance = 0x4000_0000; damping = 0x4080_0000 })
    ≡ record { limit = 3; cost_tolerance = num 1; gradient_tolerance = num 2; damping = num 4 }
unfolding of_bits of_fields odd ratio round
settings_as_lem = refl
