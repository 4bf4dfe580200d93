-- What the private functions of the solve promise, not what a reader need believe: the factor and the substitutions as the code does them, each sum of
-- products from the first place on where both rows can differ from +0. The law `followed` of proofs/Followed.antt ties them to `Rule`.
use Rattle.std.specs.Prelude.{ℕ, zero, suc, ◌+◌, ◌-◌, ◌*◌, Bool, true, false, ◌&&◌, cond, List, ltb, get_or, set, Float}
use Rattle.std.specs.Float.{nan}
use Rattle.std.specs.Float.Ieee.{neg, ne}
use Rattle.std.specs.Float.Ieee.Scale.{finite}
use Rattle.numbers.specs.Notation.{◌⊞◌, ◌⊟◌, ◌⊠◌, ◌⧄◌, num}
use Rattle.roots.specs.Roots.{root32}
use Rattle.numbers.specs.Walks.{every}
use Rattle.profile.specs.Starts.{first_of, start_at}
use Rattle.solve.specs.Rule.{less, serves}
use Rattle.profile.specs.Layout.{hessian_of}
use Rattle.solve.specs.Work.{gradient_of}

-- L below the diagonal, its diagonal, and the step, as they stand in the work
abbrev pub cell_of : List Float → ℕ → ℕ → ℕ → Float
cell_of w n i j = get_or w (i * n + j) nan

abbrev pub root_of : List Float → ℕ → ℕ → Float
root_of w n i = get_or w (n * n + i) nan

abbrev pub step_of : List Float → ℕ → ℕ → Float
step_of w n i = get_or w (n * n + n + n + i) nan

-- ---- +0 in many places

-- the m places from p on
unfoldable pub cleared_at : List Float → ℕ → ℕ → List Float
cleared_at w p zero = w
cleared_at w p (suc k) = set (cleared_at w p k) (p + k) (num 0)

-- the first m rows of L, without the diagonal
unfoldable pub cleared_rows : List Float → ℕ → ℕ → List Float
cleared_rows w n zero = w
cleared_rows w n (suc i) = cleared_at (cleared_rows w n i) (i * n) i

-- ---- the factor

-- v less the products of the m numbers from p on and the m from q on
abbrev pub less_at : List Float → Float → ℕ → ℕ → ℕ → Float
less_at w v p q m = less v (λ k. get_or w (p + k) nan) (λ k. get_or w (q + k) nan) m

-- L(i,j), its products from a on
unfoldable pub entry_from : List Float → ℕ → ℕ → ℕ → ℕ → Float
entry_from w n i j a = less_at w (hessian_of w n i j) (i * n + a) (j * n + a) (j - a) ⧄ root_of w n j

-- where row i starts at s
abbrev pub next_entry : List Float → ℕ → List ℕ → ℕ → ℕ → ℕ → Float
next_entry w n F i j s = entry_from w n i j (start_at (hessian_of w n i j) s (first_of F j))

-- m entries of row i of L, from its start on
unfoldable pub row_from : List Float → ℕ → List ℕ → ℕ → ℕ → List Float
row_from w n F i zero = w
row_from w n F i (suc m) =
    let u = row_from w n F i m in
    let j = first_of F i + m in
    set u (i * n + j) (next_entry u n F i j (first_of F i))

-- the pivot of row i, its products from a on
unfoldable pub pivot_from : List Float → ℕ → Float → ℕ → ℕ → Float
pivot_from w n d i a = less_at w (hessian_of w n i i ⊞ d) (i * n + a) (i * n + a) (i - a)

-- the next thing, where the answer is yes; an answer has the work that is left beside it
abbrev pub onward : Bool × List Float → (List Float → Bool × List Float) → Bool × List Float
onward (true, w) f = f w
onward (false, w) f = (false, w)

-- row i with its diagonal, and whether its pivot serves
unfoldable pub whole_row : List Float → ℕ → List ℕ → Float → ℕ → Bool × List Float
whole_row w n F d i =
    let v = row_from w n F i (i - first_of F i) in
    let p = pivot_from v n d i (first_of F i) in
    (serves p, set v (n * n + i) (root32 p))

-- m rows from row i on, up to the first that fails
unfoldable pub rows_from : List Float → ℕ → List ℕ → Float → ℕ → ℕ → Bool × List Float
rows_from w n F d i zero = (true, w)
rows_from w n F d i (suc m) = onward (whole_row w n F d i) (λ v. rows_from v n F d (suc i) m)

-- ---- the substitutions

-- y(i), its products from a on
unfoldable pub ahead_from : List Float → ℕ → ℕ → ℕ → Float
ahead_from w n i a = less_at w (neg (gradient_of w n i)) (i * n + a) (n * n + n + n + a) (i - a) ⧄ root_of w n i

abbrev pub next_ahead : List Float → ℕ → List ℕ → ℕ → Float
next_ahead w n F i = ahead_from w n i (start_at (neg (gradient_of w n i)) (first_of F i) 0)

-- y(0), .., y(m - 1) in the places of the step
unfoldable pub forward_from : List Float → ℕ → List ℕ → ℕ → List Float
forward_from w n F zero = w
forward_from w n F (suc i) = let u = forward_from w n F i in set u (n * n + n + n + i) (next_ahead u n F i)

-- whether L(k,i) x(k) is left out of s: row k starts after i, so that it is ±0, and s is no zero
unfoldable pub left_out : List ℕ → ℕ → Float → ℕ → Bool
left_out F i s k = ltb i (first_of F k) && ne s (num 0)

-- s less L(k,i) x(k)
unfoldable pub next_below : List Float → ℕ → List ℕ → ℕ → Float → ℕ → Float
next_below w n F i s k = cond (left_out F i s k) s (s ⊟ cell_of w n k i ⊠ step_of w n k)

-- for m numbers k from i + 1 on
unfoldable pub less_below : List Float → ℕ → List ℕ → ℕ → Float → ℕ → Float
less_below w n F i v zero = v
less_below w n F i v (suc m) = next_below w n F i (less_below w n F i v m) (i + 1 + m)

-- x(i)
unfoldable pub back_from : List Float → ℕ → List ℕ → ℕ → Float
back_from w n F i = less_below w n F i (step_of w n i) (n - (i + 1)) ⧄ root_of w n i

-- x(m - 1), .., x(0) in the places of the step
unfoldable pub backward_from : List Float → ℕ → List ℕ → ℕ → List Float
backward_from w n F zero = w
backward_from w n F (suc i) = backward_from (set w (n * n + n + n + i) (back_from w n F i)) n F i

-- both, and whether the step is finite
unfoldable pub substitute_from : List Float → ℕ → List ℕ → Bool × List Float
substitute_from w n F = let v = backward_from (forward_from w n F n) n F n in (every (λ i. finite (step_of v n i)) n, v)

unfoldable pub solved_from : List Float → ℕ → List ℕ → Float → Bool × List Float
solved_from w n F d = onward (rows_from w n F d 0 n) (λ v. substitute_from v n F)
