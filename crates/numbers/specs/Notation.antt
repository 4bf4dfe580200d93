-- The signs that every definition of the project is written with: IEEE 754's operations, each rounded once to nearest, and numbers as a reader writes them.
-- Widening an f32 to an f64 changes no value, and is never written. Definitions only.
use Rattle.std.specs.Prelude.{ℕ, Bool, true, false, List, slice_index_or, Float}
use Rattle.std.specs.Float.{binary32, binary64, nan}
use Rattle.std.specs.Float.Ieee.{add, sub, mul, div, round}

infixl 6 ◌⊕◌ ◌⊖◌ ◌⊞◌ ◌⊟◌
infixl 7 ◌⊗◌ ◌⊘◌ ◌⊠◌ ◌⧄◌
-- sum, difference, product and quotient in f64
abbrev pub ◌⊕◌ : Float → Float → Float
a ⊕ b = add binary64 a b

abbrev pub ◌⊖◌ : Float → Float → Float
a ⊖ b = sub binary64 a b

abbrev pub ◌⊗◌ : Float → Float → Float
a ⊗ b = mul binary64 a b

abbrev pub ◌⊘◌ : Float → Float → Float
a ⊘ b = div binary64 a b

-- sum, difference, product and quotient in f32
abbrev pub ◌⊞◌ : Float → Float → Float
a ⊞ b = add binary32 a b

abbrev pub ◌⊟◌ : Float → Float → Float
a ⊟ b = sub binary32 a b

abbrev pub ◌⊠◌ : Float → Float → Float
a ⊠ b = mul binary32 a b

abbrev pub ◌⧄◌ : Float → Float → Float
a ⧄ b = div binary32 a b

-- the f64 nearest to n / d; of an n / d that an f32 holds too it is that f32
unfoldable pub ratio : ℕ → ℕ → Float
unfolding round
ratio n d = round binary64 false n d

-- the f32 nearest to n / d
unfoldable pub ratio32 : ℕ → ℕ → Float
unfolding round
ratio32 n d = round binary32 false n d

-- the number n
abbrev pub num : ℕ → Float
num n = ratio n 1

-- the j-th of lent numbers, a NaN past their end
abbrev pub number_at : List Float → ℕ → Float
number_at l j = slice_index_or l j nan

-- the first where the test holds, else the second
unfoldable pub if_then : {A : Type 0} → Bool → A → A → A
if_then true a b = a
if_then false a b = b
