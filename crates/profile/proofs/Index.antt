-- Where the lines of an n by n matrix stand, and cases by order. Assumes nothing.
use mathlib.Core.Path.{◌≡◌}
use mathlib.Core.Logic.{◌⊎◌, inl, inr, ⊎_elim}
use Prim.Native.Nat.{ℕ, zero, suc, ◌+◌, ◌*◌, ◌<◌, ◌≤◌}
use native.Mathlib.Nat.{mul-le-mul_right, suc-mul, eq-or-lt_of_le}
use native.Mathlib.Omega.{arith}

-- line a ends before line b starts
pub before : (n a b : ℕ) → a < b → a * n + n ≤ b * n
before n a b h = omega (arith, mul-le-mul_right n h, suc-mul a n)

-- a line of the matrix ends within it
pub line_within : (n a : ℕ) → a < n → a * n + n ≤ n * n
line_within n a h = before n a n h

pub le_or_lt : (a b : ℕ) → (a ≤ b) ⊎ (b < a)
le_or_lt zero b = inl (omega arith)
le_or_lt (suc a) zero = inr (omega arith)
le_or_lt (suc a) (suc b) = ⊎_elim (λ p. inl (omega arith)) (λ q. inr (omega arith)) (le_or_lt a b)

pub same_or_not : (a b : ℕ) → (a ≡ b) ⊎ (a ≡ b → ⊥)
same_or_not a b =
    ⊎_elim
    (λ (l : a ≤ b). ⊎_elim (λ (e : a ≡ b). inl e) (λ (e : a < b). inr (λ q. omega arith)) (eq-or-lt_of_le l))
    (λ (l : b < a). inr (λ q. omega arith))
    (le_or_lt a b)

-- two places of the matrix that are one
pub one_line : (n a b c e : ℕ) → b < n → e < n → a * n + b ≡ c * n + e → a ≡ c
one_line n a b c e hb he q =
    ⊎_elim
    (λ (l : a ≤ c). ⊎_elim (λ (s : a ≡ c). s) (λ (s : a < c). absurd (omega (arith, before n a c s))) (eq-or-lt_of_le l))
    (λ (l : c < a). absurd (omega (arith, before n c a l)))
    (le_or_lt a c)
