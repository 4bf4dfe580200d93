-- Numbers as bytes, the low byte first (document 02, Wish 1); and one list put into another. Definitions only.
use Rattle.std.specs.Prelude.{ℕ, zero, suc, ◌+◌, ◌*◌, ◌/◌, ◌%◌, List, [], ◌∷◌, ◌++◌, length, get_or, take, drop}
use Rattle.numbers.specs.Walks.{table, strung}

-- the number that the w bytes of s from a place on stand for
unfoldable pub value_at : ℕ → List ℕ → ℕ → ℕ
value_at zero s at = 0
value_at (suc w) s at = get_or s at 0 + 256 * value_at w s (suc at)

-- n such numbers, one behind the other
abbrev pub values_at : ℕ → ℕ → List ℕ → ℕ → List ℕ
values_at w n s at = table (λ i. value_at w s (at + w * i)) n

-- x as w bytes
unfoldable pub bytes_of : ℕ → ℕ → List ℕ
bytes_of zero x = []
bytes_of (suc w) x = x % 256 ∷ bytes_of w (x / 256)

-- n numbers of ns, from an index on, as w bytes each
abbrev pub bytes_from : ℕ → ℕ → List ℕ → ℕ → List ℕ
bytes_from w n ns from = strung (λ i. bytes_of w (get_or ns (from + i) 0)) n

-- l with ys in it, from a place on
unfoldable pub pasted : ℕ → List ℕ → List ℕ → List ℕ
pasted at ys l = take at l ++ ys ++ drop (at + length ys) l
