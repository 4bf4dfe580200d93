-- The work of a solve of n unknowns (document 01, "Numbers lent and given back"): where the system stands in it, what a solve answers, and what stands at every
-- place after it. H(i,j), j ≤ i, stands at j n + i; L(i,j), j < i, at i n + j; L(i,i) at n n + i; the gradient at n n + n + i; the step at n n + 2 n + i.
use Rattle.std.specs.Prelude.{ℕ, ◌+◌, ◌-◌, ◌*◌, ◌/◌, ◌%◌, List, Result, Ok, Err, ⊤, ltb, leb, length, get_or, Float}
use Rattle.std.specs.Float.{nan}
use Rattle.numbers.specs.Notation.{num, if_then}
use Rattle.numbers.specs.Walks.{table}
use Rattle.solve.specs.declared.SolveError.{SolveError}
use Rattle.solve.specs.declared.SolveError.TheVariants.{Failed, Short}
use Rattle.solve.specs.Rule.{step, solvable, nothing}
-- the system in the work: how many numbers n unknowns need, and H(i,j); the gradient
use Rattle.profile.specs.Layout.{need, hessian_of}

abbrev pub gradient_of : List Float → ℕ → ℕ → Float
gradient_of w n i = get_or w (n * n + n + i) nan

-- ---- what a solve leaves: the system and all past the work as they were, the step, and +0 in all other places

pub data Place : Type 0 where
  kept : Place
  scratch : Place
  step_at : ℕ → Place

unfoldable pub place_of : ℕ → ℕ → Place
place_of n q =
    if_then (ltb q (n * n)) (if_then (leb (q / n) (q % n)) kept scratch)
    (if_then (ltb q (n * n + n)) scratch
    (if_then (ltb q (n * n + n + n)) kept
    (if_then (ltb q (need n)) (step_at (q - (n * n + n + n))) kept)))

-- a number v at a place, where the step is x
abbrev pub after : (ℕ → Float) → Float → Place → Float
after x v kept = v
after x v scratch = num 0
after x v (step_at i) = x i

unfoldable pub work_after : List Float → ℕ → (ℕ → Float) → List Float
work_after w n x = table (λ q. after x (get_or w q nan) (place_of n q)) (length w)

-- ---- the answer: Short where the work is shorter than n (n + 3); else Ok where the rule has a step, and Failed where it has none

abbrev pub step_in : List Float → ℕ → Float → ℕ → Float
step_in w n d = step (hessian_of w n) (gradient_of w n) n d

unfoldable pub solved_as : List Float → ℕ → Float → Result ⊤ SolveError
solved_as w n d =
    if_then (ltb (length w) (need n)) (Err Short) (if_then (solvable (hessian_of w n) (gradient_of w n) n d) (Ok tt) (Err Failed))

-- what each answer leaves
abbrev pub leaves : List Float → ℕ → Float → Result ⊤ SolveError → List Float
leaves w n d (Err Short) = w
leaves w n d (Ok _) = work_after w n (step_in w n d)
leaves w n d (Err Failed) = work_after w n nothing
