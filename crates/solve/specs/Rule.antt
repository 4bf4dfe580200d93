-- The damped solve by its rule (document 01, "The solve and the run"), on numbers alone: H(i,j) for j ≤ i, the gradient g(i), the damping d. All f32.
-- No work, no layout, no algorithm.
use Rattle.std.specs.Prelude.{ℕ, zero, suc, ◌+◌, ◌-◌, Bool, true, ◌&&◌, cond, eqb, Float}
use Rattle.std.specs.Float.Ieee.{neg, lt}
use Rattle.std.specs.Float.Ieee.Scale.{finite}
use Rattle.numbers.specs.Notation.{◌⊞◌, ◌⊟◌, ◌⊠◌, ◌⧄◌, num}
use Rattle.roots.specs.Roots.{root32}
use Rattle.numbers.specs.Walks.{every}

-- v less a(k) b(k), k rising from 0 to m - 1
unfoldable pub less : Float → (ℕ → Float) → (ℕ → Float) → ℕ → Float
less v a b zero = v
less v a b (suc k) = less v a b k ⊟ a k ⊠ b k

-- f with x at j
unfoldable pub put : (ℕ → Float) → ℕ → Float → ℕ → Float
put f j x k = cond (eqb k j) x (f k)

abbrev pub nothing : ℕ → Float
nothing k = num 0

-- the first m entries of a row of L below the diagonal, of the row h of H: L(i,j) = (H(i,j) less L(i,k) L(j,k), k rising) / L(j,j). L has the rows above.
unfoldable pub factor_row : (ℕ → Float) → (ℕ → ℕ → Float) → ℕ → ℕ → Float
factor_row h L zero = nothing
factor_row h L (suc j) = put (factor_row h L j) j (less (h j) (factor_row h L j) (L j) j ⧄ L j j)

-- the pivot of row i: H(i,i) + d less L(i,k) L(i,k), k rising
unfoldable pub pivot : (ℕ → Float) → (ℕ → ℕ → Float) → Float → ℕ → Float
pivot h L d i = less (h i ⊞ d) (factor_row h L i) (factor_row h L i) i

-- a pivot, the number before its root, serves if it is above 0 and finite (T9)
unfoldable pub serves : Float → Bool
serves p = lt (num 0) p && finite p

-- the first m rows of L, each with its pivot's root on the diagonal
unfoldable pub lower : (ℕ → ℕ → Float) → Float → ℕ → ℕ → ℕ → Float
lower H d zero a = nothing
lower H d (suc i) a = cond (eqb a i) (put (factor_row (H i) (lower H d i) i) i (root32 (pivot (H i) (lower H d i) d i))) (lower H d i a)

-- whether the first m pivots all serve
unfoldable pub definite : (ℕ → ℕ → Float) → Float → ℕ → Bool
definite H d zero = true
definite H d (suc i) = definite H d i && serves (pivot (H i) (lower H d i) d i)

-- y(i) = (-g(i) less L(i,k) y(k), k rising) / L(i,i), i from 0 to m - 1
unfoldable pub forward : (ℕ → ℕ → Float) → (ℕ → Float) → ℕ → ℕ → Float
forward L g zero = nothing
forward L g (suc i) = put (forward L g i) i (less (neg (g i)) (L i) (forward L g i) i ⧄ L i i)

-- x(i) = (y(i) less L(k,i) x(k), k rising from i + 1 to n - 1) / L(i,i), put in the place of y(i), for i from m - 1 down to 0 (C14)
unfoldable pub backward : (ℕ → ℕ → Float) → ℕ → (ℕ → Float) → ℕ → ℕ → Float
backward L n y zero = y
backward L n y (suc i) =
    backward L n (put y i (less (y i) (λ k. L (i + 1 + k) i) (λ k. y (i + 1 + k)) (n - (i + 1)) ⧄ L i i)) i

-- the step
unfoldable pub step : (ℕ → ℕ → Float) → (ℕ → Float) → ℕ → Float → ℕ → Float
step H g n d = backward (lower H d n) n (forward (lower H d n) g n) n

-- whether there is one: each pivot serves, and the step is finite
unfoldable pub solvable : (ℕ → ℕ → Float) → (ℕ → Float) → ℕ → Float → Bool
solvable H g n d = definite H d n && every (λ i. finite (step H g n d i)) n
