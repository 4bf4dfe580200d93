-- For the layer above: the promise names one outcome; a solve leaves the system as it was, so that the next one, at another damping, is one of the same system;
-- and how the step is read from what a solve leaves. Assumes nothing.
use mathlib.Core.Path.{◌≡◌, refl, sym, ap, ◌∙◌, fun_ext}
use mathlib.Core.Bool.{Bool, true, false}
use mathlib.Core.List.{List}
use Prim.Native.Nat.{ℕ, zero, suc, ◌+◌, ◌-◌, ◌*◌, ◌<◌, ◌≤◌}
use native.Mathlib.Omega.{arith}
use borrow.Author.Tests.{le-ltb}
use lib.ListN.{length, get_or}
use lib.Ieee.{Float, nan}
use Rattle.numbers.specs.Notation.{if_then}
use Rattle.numbers.proofs.Choices.{left}
use Rattle.std.specs.Prelude.{Result, Ok, Err, ⊤}
use Rattle.solve.specs.declared.SolveError.{SolveError}
use Rattle.solve.specs.declared.SolveError.TheVariants.{Failed, Short}
use Rattle.solve.specs.Rule.{factor_row, pivot, lower, definite, forward, step, solvable, nothing}
use Rattle.profile.specs.Layout.{need, hessian_of}
use Rattle.solve.specs.Work.{gradient_of, step_at, after, work_after, step_in, solved_as, leaves}
use Rattle.solve.proofs.Places.{at_step, system_after, gradient_after, length_after, read_after, read_kept, after_ext}
use Rattle.solve.proofs.Close.{Answered}

-- any two outcomes that meet the promise are one
pub one_answer : (w : List Float) (n : ℕ) (d : Float) (r s : Result ⊤ SolveError) (v z : List Float) → Answered w n d r v → Answered w n d s z → (r ≡ s) × (v ≡ z)
one_answer w n d r s v z p q = (p.0 ∙ sym q.0, p.1 ∙ sym q.1)

-- ---- the rule reads H(i,j) for j ≤ i < n and g(i) for i < n, and nothing else

row_ext : (h k : ℕ → Float) (A : ℕ → ℕ → Float) (m : ℕ) → ((j : ℕ) → j < m → h j ≡ k j) → factor_row h A m ≡ factor_row k A m
unfolding factor_row
row_ext h k A zero e = refl
row_ext h k A (suc j) e = rw (row_ext h k A j (λ i l. e i (omega arith)), e j (omega arith))

pivot_ext : (h k : ℕ → Float) (A : ℕ → ℕ → Float) (d : Float) (i : ℕ) → ((j : ℕ) → j ≤ i → h j ≡ k j) → pivot h A d i ≡ pivot k A d i
unfolding pivot
pivot_ext h k A d i e = rw (row_ext h k A i (λ j l. e j (omega arith)), e i (omega arith))

forward_ext : (A : ℕ → ℕ → Float) (g k : ℕ → Float) (m : ℕ) → ((i : ℕ) → i < m → g i ≡ k i) → forward A g m ≡ forward A k m
unfolding forward
forward_ext A g k zero e = refl
forward_ext A g k (suc i) e = rw (forward_ext A g k i (λ j l. e j (omega arith)), e i (omega arith))

module _ (H K : ℕ → ℕ → Float) (d : Float) where
  lower_ext : (m : ℕ) → ((i j : ℕ) → j ≤ i → i < m → H i j ≡ K i j) → lower H d m ≡ lower K d m
  unfolding lower
  lower_ext zero e = refl
  lower_ext (suc i) e =
      fun_ext (λ a.
      rw (
        lower_ext i (λ b c h l. e b c h (omega arith)),
        row_ext (H i) (K i) (lower K d i) i (λ j l. e i j (omega arith) (omega arith)),
        pivot_ext (H i) (K i) (lower K d i) d i (λ j l. e i j l (omega arith)),
      ))

  definite_ext : (m : ℕ) → ((i j : ℕ) → j ≤ i → i < m → H i j ≡ K i j) → definite H d m ≡ definite K d m
  unfolding definite
  definite_ext zero e = refl
  definite_ext (suc i) e =
      rw (
        definite_ext i (λ b c h l. e b c h (omega arith)),
        lower_ext i (λ b c h l. e b c h (omega arith)),
        pivot_ext (H i) (K i) (lower K d i) d i (λ j l. e i j l (omega arith)),
      )

  module _ (g k : ℕ → Float) (n : ℕ) (e : (i j : ℕ) → j ≤ i → i < n → H i j ≡ K i j) (f : (i : ℕ) → i < n → g i ≡ k i) where
    step_ext : step H g n d ≡ step K k n d
    unfolding step
    step_ext = rw (lower_ext n e, forward_ext (lower K d n) g k n f)

    solvable_ext : solvable H g n d ≡ solvable K k n d
    unfolding solvable
    solvable_ext = rw (definite_ext n e, step_ext)

-- ---- after a solve

module _ (w : List Float) (n : ℕ) (x : ℕ → Float) (long : need n ≤ length w) where
  pub same_solvable : (d : Float) → solvable (hessian_of (work_after w n x) n) (gradient_of (work_after w n x) n) n d ≡ solvable (hessian_of w n) (gradient_of w n) n d
  same_solvable d = solvable_ext (hessian_of (work_after w n x) n) (hessian_of w n) d (gradient_of (work_after w n x) n) (gradient_of w n) n (system_after w n x long) (gradient_after w n x long)

  pub same_step : (d : Float) → step_in (work_after w n x) n d ≡ step_in w n d
  same_step d = step_ext (hessian_of (work_after w n x) n) (hessian_of w n) d (gradient_of (work_after w n x) n) (gradient_of w n) n (system_after w n x long) (gradient_after w n x long)

  pub same_answer : (d : Float) → solved_as (work_after w n x) n d ≡ solved_as w n d
  unfolding solved_as
  same_answer d = rw (length_after w n x, same_solvable d)

  -- the step, where it stands
  pub read_step : (i : ℕ) → i < n → get_or (work_after w n x) (n * n + n + n + i) nan ≡ x i
  read_step i h =
      let q = n * n + n + n + i in
      let e : q - (n * n + n + n) ≡ i = omega arith in
      read_after w n x q (omega arith) ∙ ap (after x (get_or w q nan)) (at_step n q (omega arith) (omega arith) ∙ ap step_at e)

-- one solve after another leaves what the last one leaves
pub after_after : (w : List Float) (n : ℕ) (x y : ℕ → Float) → work_after (work_after w n x) n y ≡ work_after w n y
after_after w n x y = after_ext (work_after w n x) w n y y (length_after w n x) (λ q h k. read_kept w n x q h k) (λ i h. refl)

-- with room there is an answer, by the rule
pub answer_is : (w : List Float) (n : ℕ) (d : Float) → need n ≤ length w → solved_as w n d ≡ if_then (solvable (hessian_of w n) (gradient_of w n) n d) (Ok tt) (Err Failed)
unfolding solved_as
answer_is w n d long = sym (left (Err Short) (le-ltb (length w) (need n) long) refl)

-- so a solve after a solve answers and leaves what it would have at first
pub same_leaves : (w : List Float) (n : ℕ) (x : ℕ → Float) → need n ≤ length w → (d : Float) → leaves (work_after w n x) n d (solved_as (work_after w n x) n d) ≡ leaves w n d (solved_as w n d)
unfolding if_then
same_leaves w n x long d = rw (same_answer w n x long d, answer_is w n d long) (go (solvable (hessian_of w n) (gradient_of w n) n d))
  where
    go : (b : Bool) → leaves (work_after w n x) n d (if_then b (Ok tt) (Err Failed)) ≡ leaves w n d (if_then b (Ok tt) (Err Failed))
    go true = rw (same_step w n x long d) (after_after w n x (step_in w n d))
    go false = after_after w n x nothing

-- work s of exactly what n unknowns need
module _ (s : List Float) (n : ℕ) (x : ℕ → Float) (long : length s ≡ need n) where
  pub length_solved : length (work_after s n x) ≡ need n
  length_solved = length_after s n x ∙ long

  pub step_solved : (i : ℕ) → i < n → get_or (work_after s n x) (n * n + n + n + i) nan ≡ x i
  step_solved i h = read_step s n x (omega arith) i h

-- where s has +0 for L and the step, it is s again without the step
pub bare_again : (s : List Float) (n : ℕ) (x : ℕ → Float) → work_after s n nothing ≡ s → work_after (work_after s n x) n nothing ≡ s
bare_again s n x bare = after_after s n x nothing ∙ bare
