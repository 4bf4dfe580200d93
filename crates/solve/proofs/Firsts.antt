-- A table of starts of the work's rows starts each of them where it may: left of it the row of H is +0. Assumes nothing.
use mathlib.Core.Path.{◌≡◌, refl, sym}
use mathlib.Core.Bool.{Bool, true, false, cond}
use mathlib.Core.List.{List}
use Prim.Native.Nat.{ℕ, ◌+◌, ◌*◌, ◌<◌, ◌≤◌}
use native.Mathlib.Omega.{arith}
use borrow.Author.Tests.{ltb-true, le-leb}
use lib.Dec.{ltb}
use lib.ListN.{length, get_or}
use lib.Ieee.{Float, nan}
use Rattle.numbers.specs.Notation.{num, if_then}
use Rattle.numbers.proofs.Choices.{taken}
use Rattle.numbers.proofs.Tables.{get_d_table}
use Rattle.profile.specs.Layout.{need, hessian_of}
use Rattle.profile.specs.Starts.{plus_zero, leading, start_of, order_for, starts_of, first_of}
use Rattle.profile.proofs.Leading.{leading_low, leading_all}
use Rattle.profile.proofs.Zeros.{Fits, plus_zero_is}

-- x is a start for row i
pub record Start (w : List Float) (n i x : ℕ) : Type 0 where
  pub low : x ≤ i
  pub none : i < n → (b : ℕ) → b < x → hessian_of w n i b ≡ num 0

abbrev pub Starts : List Float → ℕ → List ℕ → Type 0
Starts w n F = (a : ℕ) → Start w n a (first_of F a)

-- no row of n starts past its diagonal
abbrev pub Within : ℕ → List ℕ → Type 0
Within n F = (a : ℕ) → a < n → first_of F a ≤ a

start_zero : (w : List Float) (n i : ℕ) → Start w n i 0
start_zero w n i = record { low = omega arith; none = λ h b l. absurd (omega arith) }

start_of_lem : (w : List Float) (n i : ℕ) → ((q : ℕ) → Fits (get_or w q nan)) → Start w n i (start_of w n i)
unfolding start_of if_then
start_of_lem w n i fit = go (ltb i n) (λ j. plus_zero (hessian_of w n i j)) (λ b e. plus_zero_is (hessian_of w n i b) (fit (b * n + i)) e)
  where
    go : (c : Bool) (t : ℕ → Bool) → ((b : ℕ) → t b ≡ true → hessian_of w n i b ≡ num 0) → Start w n i (if_then c (leading t i) 0)
    go true t h = record { low = leading_low t i; none = λ _ b l. h b (leading_all t i b l) }
    go false t h = start_zero w n i

-- with room the table is of n rows
room : (w : List Float) (n : ℕ) → need n ≤ length w → order_for (length w) n ≡ n
unfolding order_for
room w n long = sym (taken _ (le-leb (need n) (length w) long) refl)

pub starts_are : (w : List Float) (n : ℕ) (F : List ℕ) → need n ≤ length w → ((q : ℕ) → Fits (get_or w q nan)) → F ≡ starts_of w n → Starts w n F
unfolding first_of
starts_are w n F long fit e a = go (ltb a 384) refl
  where
    go : (c : Bool) → ltb a 384 ≡ c → Start w n a (cond c (get_or F a 0) 0)
    go true q = rw (e, get_d_table (start_of w (order_for (length w) n)) 384 a 0 (ltb-true a 384 q), room w n long) (start_of_lem w n a fit)
    go false q = start_zero w n a
