-- Worked examples of narrowing, as one statement over a list of cases that antt computes: bit patterns in, bit patterns out. Document 01's own, those
-- marked *, stand in StarredSamples of sparse_pgo. Assumes nothing.
use Rattle.std.specs.Prelude.{◌≡◌, ℕ, List, [], ◌∷◌, map, refl}
use Rattle.std.specs.Float.{binary32, binary64}
use Rattle.std.specs.Float.Ieee.{of_bits, to_bits}
use Rattle.rounding.specs.Rounding.{rounded, narrowed}

-- the bits of an f64 as an f32
unfoldable pub narrowed_bits : ℕ → ℕ
unfolding of_bits to_bits rounded
narrowed_bits b = to_bits binary32 (narrowed (of_bits binary64 b))

-- The f64 after 2⁻¹⁵⁰ gives the least f32; the least f64 gives 0; 1 + 2⁻²⁴ is a tie, with a neighbour on each side, and 1 + 3 × 2⁻²⁴ one that goes up;
-- two ties whose digits are all ones, so that going up carries into the exponent, of a subnormal too; the overflow's edge, on both sides.
unfoldable pub cases : List ℕ
cases =
    0x3690_0000_0000_0001 ∷ 1
    ∷ 0x3ff0_0000_0fff_ffff ∷ 0x3ff0_0000_1000_0000 ∷ 0x3ff0_0000_1000_0001 ∷ 0x3ff0_0000_3000_0000
    ∷ 0x3fef_ffff_f000_0000 ∷ 0x380f_ffff_e000_0000
    ∷ 0x47ef_ffff_efff_ffff ∷ 0x47ef_ffff_f000_0000 ∷ []

pub samples : map narrowed_bits cases
    ≡ 1 ∷ 0
    ∷ 0x3f80_0000 ∷ 0x3f80_0000 ∷ 0x3f80_0001 ∷ 0x3f80_0002
    ∷ 0x3f80_0000 ∷ 0x0080_0000
    ∷ 0x7f7f_ffff ∷ 0x7f80_0000 ∷ []
unfolding narrowed_bits cases
samples = refl
