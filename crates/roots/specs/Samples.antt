-- Worked examples of roots, as one statement over a list of cases that antt computes: bit patterns in, bit patterns out. Document 01's own, those marked *,
-- stand in StarredSamples of sparse_pgo. Assumes nothing.
use Rattle.std.specs.Prelude.{◌≡◌, ℕ, List, [], ◌∷◌, map, refl}
use Rattle.std.specs.Float.{binary32, binary64}
use Rattle.std.specs.Float.Ieee.{of_bits, to_bits}
use Rattle.roots.specs.Roots.{rooted}

pub data Case : Type 0 where
  sqrt32 : ℕ → Case
  sqrt64 : ℕ → Case

-- the bits of the answer
unfoldable pub answer : Case → ℕ
unfolding of_bits to_bits rooted
answer (sqrt32 b) = to_bits binary32 (rooted binary32 (of_bits binary32 b))
answer (sqrt64 b) = to_bits binary64 (rooted binary64 (of_bits binary64 b))

-- √−0 = −0; the least subnormal; the largest finite; √−1 is a NaN; √2 in f64.
unfoldable pub cases : List Case
cases =
    sqrt32 0x8000_0000 ∷ sqrt32 1 ∷ sqrt32 0x7f7f_ffff ∷ sqrt32 0xbf80_0000
    ∷ sqrt64 0x4000_0000_0000_0000 ∷ sqrt64 0x8000_0000_0000_0000 ∷ sqrt64 1 ∷ sqrt64 0x7fef_ffff_ffff_ffff ∷ []

pub samples : map answer cases
    ≡ 0x8000_0000 ∷ 0x1a35_04f3 ∷ 0x5f7f_ffff ∷ 0x7fc0_0000
    ∷ 0x3ff6_a09e_667f_3bcd ∷ 0x8000_0000_0000_0000 ∷ 0x1e60_0000_0000_0000 ∷ 0x5fef_ffff_ffff_ffff ∷ []
unfolding answer cases
samples = refl
