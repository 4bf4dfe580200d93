-- Where a system of n unknowns stands in a solve's work, and how many numbers the work has: document 01, "Numbers lent and given back". The rest of the layout:
-- `Work` of the crate solve.
use Rattle.std.specs.Prelude.{ℕ, ◌+◌, ◌*◌, List, get_or, Float}
use Rattle.std.specs.Float.{nan}

-- how many numbers n unknowns need
abbrev pub need : ℕ → ℕ
need n = n * (n + 3)

-- H(i,j), j ≤ i
abbrev pub hessian_of : List Float → ℕ → ℕ → ℕ → Float
hessian_of w n i j = get_or w (j * n + i) nan
