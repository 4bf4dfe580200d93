-- Where the rows of H start: at the first entry that is not +0. The products left of it change no sum, but for one from -0. Definitions only.
use Rattle.std.specs.Prelude.{ℕ, zero, suc, max, Bool, false, not, ◌&&◌, cond, List, ltb, leb, eqb, length, get_or, Float}
use Rattle.std.specs.Float.{nan, inf, fin}
use Rattle.numbers.specs.Notation.{if_then}
use Rattle.numbers.specs.Walks.{table}
use Rattle.profile.specs.Layout.{need, hessian_of}

unfoldable pub plus_zero : Float → Bool
plus_zero nan = false
plus_zero (inf s) = false
plus_zero (fin s m e) = not s && eqb m 0

-- Only -0 feels a zero that is taken from it.
unfoldable pub minus_zero : Float → Bool
minus_zero nan = false
minus_zero (inf s) = false
minus_zero (fin s m e) = s && eqb m 0

-- how many of the numbers 0, 1, .. below n pass a test before the first that does not
unfoldable pub leading : (ℕ → Bool) → ℕ → ℕ
leading t zero = zero
leading t (suc n) = cond (eqb (leading t n) n && t n) (suc n) (leading t n)

-- row i of n: the first j with H(i,j) not +0, and i where there is none; rows past n start at 0
unfoldable pub start_of : List Float → ℕ → ℕ → ℕ
start_of w n i = if_then (ltb i n) (leading (λ j. plus_zero (hessian_of w n i j)) i) 0

-- n where len numbers are enough for n unknowns, else 0
unfoldable pub order_for : ℕ → ℕ → ℕ
order_for len n = if_then (leb (need n) len) n 0

abbrev pub starts_of : List Float → ℕ → List ℕ
starts_of w n = table (start_of w (order_for (length w) n)) 384

-- the start of row i in a table; rows past the table start at 0
unfoldable pub first_of : List ℕ → ℕ → ℕ
first_of F i = cond (ltb i 384) (get_or F i 0) 0

-- where the products to be taken from v start, of rows that start at a and at b
unfoldable pub start_at : Float → ℕ → ℕ → ℕ
start_at v a b = cond (minus_zero v) 0 (max a b)
