-- Every number of a step by the rule is an f32; and where there is a step, each is finite. Assumes nothing.
use mathlib.Core.Path.{◌≡◌, sym, ◌∙◌}
use mathlib.Core.Logic.{⊎_elim}
use mathlib.Core.Bool.{true, false, true≢false}
use Prim.Native.Nat.{ℕ, zero, suc, ◌<◌}
use native.Mathlib.Nat.{eq-or-lt_of_le}
use native.Mathlib.Omega.{arith}
use lib.Ieee.{Float, binary32}
use lib.Ieee.Fits.{div-fits}
use lib.Ieee.Scale.{finite}
use Rattle.solve.specs.Rule.{put, lower, definite, forward, backward, step, solvable}
use Rattle.numbers.proofs.Tests.{true_or_false, and_second}
use Rattle.numbers.proofs.Walking.{every_miss}
use Rattle.profile.proofs.Zeros.{Fits}
use Rattle.solve.proofs.Lower.{put_same}
use Rattle.solve.proofs.Steps.{rule_keeps}

-- a quotient is put at each place
backward_fits : (L : ℕ → ℕ → Float) (n : ℕ) (y : ℕ → Float) (m i : ℕ) → i < m → Fits (backward L n y m i)
unfolding backward
backward_fits L n y zero i h = absurd (omega arith)
backward_fits L n y (suc j) i h =
    ⊎_elim
    (λ (e : suc i ≡ suc j). let z : i ≡ j = omega arith in rw (z, rule_keeps L n (put y j _) j j (omega arith), put_same y j _) (div-fits binary32 _ _))
    (λ (e : suc i < suc j). backward_fits L n (put y j _) j i (omega arith))
    (eq-or-lt_of_le h)

module _ (H : ℕ → ℕ → Float) (g : ℕ → Float) (n : ℕ) (d : Float) (i : ℕ) (h : i < n) where
  pub step_fits : Fits (step H g n d i)
  unfolding step
  step_fits = backward_fits (lower H d n) n (forward (lower H d n) g n) n i h

  pub step_finite : solvable H g n d ≡ true → finite (step H g n d i) ≡ true
  unfolding solvable
  step_finite s =
      ⊎_elim
      (λ (t : finite (step H g n d i) ≡ true). t)
      (λ (f : finite (step H g n d i) ≡ false). absurd (true≢false (sym (and_second (definite H d n) _ s) ∙ every_miss (λ k. finite (step H g n d k)) i n h f)))
      (true_or_false (finite (step H g n d i)))
