-- Laws of `leading`: what passed, the first that does not, and the end. Assumes nothing.
use mathlib.Core.Path.{◌≡◌, refl, sym, ap, ◌∙◌}
use mathlib.Core.Logic.{⊎_elim}
use mathlib.Core.Bool.{Bool, true, false, ◌&&◌, cond, and-false}
use Prim.Native.Nat.{ℕ, zero, suc, ◌+◌, ◌-◌, ◌<◌, ◌≤◌}
use native.Mathlib.Nat.{zero-add, suc-add, eq-or-lt_of_le}
use native.Mathlib.Numerals.{add-one}
use native.Mathlib.Omega.{arith}
use borrow.Author.Tests.{eq-eqb, ne_eqb, eqb-true}
use lib.Dec.{eqb}
use Rattle.numbers.proofs.Tests.{and_first, and_second}
use Rattle.std.proofs.Common.{Option, None, Some}
use Rattle.std.specs.Option.{MatchOption, unwrap_or}
use Rattle.profile.specs.Starts.{leading}

module _ (t : ℕ → Bool) where
  leading_none : leading t 0 ≡ 0
  unfolding leading
  leading_none = refl

  leading_more : (n : ℕ) → leading t n ≡ n → t n ≡ true → leading t (n + 1) ≡ n + 1
  unfolding leading
  leading_more n e h = rw (add-one n, e, eq-eqb n n refl, h)

  past : (j k : ℕ) → leading t j ≡ j → t j ≡ false → leading t (k + suc j) ≡ j
  unfolding leading
  past j zero e h = rw (zero-add (suc j), h, and-false (eqb (leading t j) j)) e
  past j (suc k) e h = rw (suc-add k (suc j), past j k e h, ne_eqb j (k + suc j) (λ z. omega arith))

  leading_stop : (j n : ℕ) → j < n → leading t j ≡ j → t j ≡ false → leading t n ≡ j
  leading_stop j n l e h = let q : n ≡ (n - suc j) + suc j = omega arith in ap (leading t) q ∙ past j (n - suc j) e h

  leading_passed : (n : ℕ) → ((k : ℕ) → k < n → t k ≡ true) → leading t n ≡ n
  leading_passed zero h = leading_none
  leading_passed (suc n) h = rw (← add-one) (leading_more n (leading_passed n (λ k l. h k (omega arith))) (h n (omega arith)))

  -- the first that does not pass, if there is one, and else n
  pub leading_found : (n : ℕ) (r : Option ℕ)
      → MatchOption r ((k : ℕ) → 0 ≤ k → k < n → t k ≡ true) (λ j. (0 ≤ j) × (j < n) × (t j ≡ false) × ((k : ℕ) → 0 ≤ k → k < j → t k ≡ true))
      → unwrap_or r n ≡ leading t n
  leading_found n None h = sym (leading_passed n (λ k l. h k (omega arith) l))
  leading_found n (Some j) h = sym (leading_stop j n h.1 (leading_passed j (λ k l. h.3 k (omega arith) l)) h.2)

  pub leading_low : (n : ℕ) → leading t n ≤ n
  unfolding leading
  leading_low zero = omega arith
  leading_low (suc n) = go (eqb (leading t n) n && t n) (leading_low n)
    where
      go : (c : Bool) → leading t n ≤ n → cond c (suc n) (leading t n) ≤ suc n
      go true l = omega arith
      go false l = omega arith

  pub leading_all : (n b : ℕ) → b < leading t n → t b ≡ true
  unfolding leading
  leading_all zero b h = absurd (omega arith)
  leading_all (suc n) b h = go (eqb (leading t n) n && t n) (leading_all n b) refl h
    where
      go : (c : Bool) → (b < leading t n → t b ≡ true) → (eqb (leading t n) n && t n) ≡ c → b < cond c (suc n) (leading t n) → t b ≡ true
      go true k e l =
          ⊎_elim
          (λ (q : b ≡ n). rw q (and_second (eqb (leading t n) n) (t n) e))
          (λ (q : b < n). k (rw (eqb-true (leading t n) n (and_first (eqb (leading t n) n) (t n) e)) q))
          (eq-or-lt_of_le (omega arith))
      go false k e l = k l
