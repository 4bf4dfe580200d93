-- What it is to be the value of a format that is nearest to an exact number: IEEE 754's round to nearest, ties to even, with no word of how it is found.
-- Definitions only.
use Rattle.std.specs.Prelude.{◌≡◌, ℕ, ◌+◌, ◌-◌, ◌*◌, ◌%◌, ◌^◌, ◌<◌, ◌≤◌, Bool, T, ◌≢◌, to_bits, Float}
use Rattle.std.specs.Float.{nan, inf, fin, Format}
use Rattle.std.specs.Float.Ieee.{prec, emax, fits}
use Rattle.std.specs.Float.Ieee.Positive.{num, den}

-- ---- an exact number, 0 or above: the fraction numerator / denominator for a power of 1, its square root for a power of 2

pub record Exact : Type 0 where
  pub power : ℕ
  pub numerator : ℕ
  pub denominator : ℕ

abbrev pub fraction : ℕ → ℕ → Exact
fraction n d = record { power = 1; numerator = n; denominator = d }

abbrev pub root_of : ℕ → ℕ → Exact
root_of n d = record { power = 2; numerator = n; denominator = d }

-- it is below a / b, no more than a / b, no less than a / b
abbrev pub Below : Exact → ℕ → ℕ → Type 0
Below x a b = x.numerator * b ^ x.power < a ^ x.power * x.denominator

abbrev pub NoMore : Exact → ℕ → ℕ → Type 0
NoMore x a b = x.numerator * b ^ x.power ≤ a ^ x.power * x.denominator

abbrev pub NoLess : Exact → ℕ → ℕ → Type 0
NoLess x a b = a ^ x.power * x.denominator ≤ x.numerator * b ^ x.power

-- ---- the values of a format that have the sign s, zero among them. The size of one is the fraction num v / den v.

abbrev pub ValueOf : Format → Bool → Float → Type 0
ValueOf f s nan = ⊥
ValueOf f s (inf t) = ⊥
ValueOf f s (fin t m e) = (t ≡ s) × T (fits f (fin t m e))

abbrev pub Smaller : Float → Float → Type 0
Smaller v w = num v * den w < num w * den v

-- half way between the sizes of v and w is middle v w / twice v w
abbrev pub middle : Float → Float → ℕ
middle v w = num v * den w + num w * den v

abbrev pub twice : Float → Float → ℕ
twice v w = 2 * (den v * den w)

-- ---- of the values that have the sign s none is nearer to x than v: between v and a larger one x lies no further than the middle, between v and a smaller
-- ---- one no less far. Where it lies in the middle itself, v is the one whose last binary digit is 0. (Values of the other sign are no nearer than zero is.)

pub record NearestValue (f : Format) (s : Bool) (x : Exact) (v : Float) : Type 0 where
  pub value : ValueOf f s v
  pub below_larger : (w : Float) → ValueOf f s w → Smaller v w → NoMore x (middle v w) (twice v w)
  pub above_smaller : (w : Float) → ValueOf f s w → Smaller w v → NoLess x (middle v w) (twice v w)
  pub even_at_tie : (w : Float) → ValueOf f s w → (w ≢ v) → NoMore x (middle v w) (twice v w) → NoLess x (middle v w) (twice v w) → to_bits f v % 2 ≡ 0

-- 2 ^ (emax + 1) less half a last place of the largest values: from here on an infinity is given
abbrev pub overflow_from : Format → ℕ
overflow_from f = 2 ^ (emax f + 1) - 2 ^ (emax f - prec f)

-- v is x with the sign s, rounded
pub record RoundsTo (f : Format) (s : Bool) (x : Exact) (v : Float) : Type 0 where
  pub finite : Below x (overflow_from f) 1 → NearestValue f s x v
  pub infinite : NoLess x (overflow_from f) 1 → v ≡ inf s
