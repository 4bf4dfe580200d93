-- Laws of the rule's sums of products: what they read, products that change nothing, where they may start, and what is not finite. Assumes nothing.
use mathlib.Core.Path.{◌≡◌, refl, ap, ◌∙◌}
use mathlib.Core.Logic.{◌⊎◌, inl, inr, ⊎_elim}
use mathlib.Core.Bool.{true, false}
use Prim.Native.Nat.{ℕ, zero, suc, ◌+◌, ◌-◌, ◌<◌, ◌≤◌, max}
use native.Mathlib.Nat.{add-zero, add-suc, eq-or-lt_of_le, max-eq_left, max-eq_right}
use native.Mathlib.Omega.{arith}
use lib.Ieee.{Float, binary32}
use lib.Ieee.Fits.{sub-fits}
use lib.Ieee.Scale.{finite}
use Rattle.numbers.specs.Notation.{◌⊟◌, ◌⊠◌, num}
use Rattle.solve.specs.Rule.{less}
use Rattle.profile.specs.Starts.{minus_zero, start_at}
use Rattle.profile.proofs.Index.{le_or_lt}
use Rattle.numbers.proofs.Tests.{true_or_false}
use Rattle.profile.proofs.Zeros.{Fits, zero_less, plus_times, times_plus, stuck_left, stuck_right}

pub less_ext : (v : Float) (a b c d : ℕ → Float) (m : ℕ) → ((k : ℕ) → k < m → a k ≡ c k) → ((k : ℕ) → k < m → b k ≡ d k) → less v a b m ≡ less v c d m
unfolding less
less_ext v a b c d zero f g = refl
less_ext v a b c d (suc m) f g =
    rw (less_ext v a b c d m (λ k h. f k (omega arith)) (λ k h. g k (omega arith)), f m (omega arith), g m (omega arith))

module _ (v : Float) (a b : ℕ → Float) where
  -- the first s products change nothing
  pub less_idle : (s : ℕ) → ((k : ℕ) → k < s → v ⊟ a k ⊠ b k ≡ v) → less v a b s ≡ v
  unfolding less
  less_idle zero h = refl
  less_idle (suc s) h = rw (less_idle s (λ k l. h k (omega arith))) (h s (omega arith))

  pub less_skip : (s m : ℕ) → ((k : ℕ) → k < s → v ⊟ a k ⊠ b k ≡ v) → less v a b (s + m) ≡ less v (λ k. a (s + k)) (λ k. b (s + k)) m
  unfolding less
  less_skip s zero h = rw add-zero (less_idle s h)
  less_skip s (suc m) h = rw (add-suc s m, less_skip s m h)

  -- from what is not finite, or less a product that is not
  pub less_from : (m : ℕ) → finite v ≡ false → finite (less v a b m) ≡ false
  unfolding less
  less_from zero e = e
  less_from (suc m) e = stuck_left (less v a b m) (a m ⊠ b m) (less_from m e)

  pub less_stuck : (m k : ℕ) → k < m → finite (a k ⊠ b k) ≡ false → finite (less v a b m) ≡ false
  unfolding less
  less_stuck zero k h s = absurd (omega arith)
  less_stuck (suc m) k h s =
      ⊎_elim
      (λ (e : suc k ≡ suc m). let f : k ≡ m = omega arith in stuck_right (less v a b m) (a m ⊠ b m) (rw f at s))
      (λ (l : suc k < suc m). stuck_left (less v a b m) (a m ⊠ b m) (less_stuck m k (omega arith) s))
      (eq-or-lt_of_le h)

  pub less_fits : (m : ℕ) → Fits v → Fits (less v a b m)
  unfolding less
  less_fits zero f = f
  less_fits (suc m) f = sub-fits binary32 (less v a b m) (a m ⊠ b m)

-- ---- where the products may start

start_minus : (v : Float) (x y : ℕ) → minus_zero v ≡ true → start_at v x y ≡ 0
unfolding start_at
start_minus v x y e = rw e

start_else : (v : Float) (x y : ℕ) → minus_zero v ≡ false → start_at v x y ≡ max x y
unfolding start_at
start_else v x y e = rw e

before_max : (k x y : ℕ) → k < max x y → (k < x) ⊎ (k < y)
before_max k x y h =
    ⊎_elim (λ (l : x ≤ y). inr (rw (max-eq_right l) at h)) (λ (l : y < x). let g : y ≤ x = omega arith in inl (rw (max-eq_left g) at h)) (le_or_lt x y)

max_low : (j x y : ℕ) → x ≤ j → y ≤ j → max x y ≤ j
max_low j x y p q =
    ⊎_elim (λ (l : x ≤ y). rw (max-eq_right l) q) (λ (l : y < x). let g : y ≤ x = omega arith in rw (max-eq_left g) p) (le_or_lt x y)

pub start_low : (v : Float) (j x y : ℕ) → x ≤ j → y ≤ j → start_at v x y ≤ j
start_low v j x y p q =
    ⊎_elim (λ e. rw (start_minus v x y e) (omega arith)) (λ e. rw (start_else v x y e) (max_low j x y p q)) (true_or_false (minus_zero v))

-- two rows of finite numbers, which are +0 below x and below y
module _ (v : Float) (a b : ℕ → Float) (x y j : ℕ) (fit : Fits v)
    (za : (k : ℕ) → k < x → a k ≡ num 0) (fa : (k : ℕ) → k < j → finite (a k) ≡ true)
    (zb : (k : ℕ) → k < y → b k ≡ num 0) (fb : (k : ℕ) → k < j → finite (b k) ≡ true) (hx : x ≤ j) (hy : y ≤ j) where
  idle : (k : ℕ) → k < start_at v x y → v ⊟ a k ⊠ b k ≡ v
  idle k h =
      ⊎_elim
      (λ (e : minus_zero v ≡ true). let l : k < 0 = rw (start_minus v x y e) at h in absurd (omega arith))
      (λ (e : minus_zero v ≡ false).
      let g : k < j = omega (arith, start_low v j x y hx hy) in
      zero_less v (a k ⊠ b k) fit e
      (⊎_elim
      (λ (l : k < x). rw (za k l) (plus_times (b k) (fb k g)))
      (λ (l : k < y). rw (zb k l) (times_plus (a k) (fa k g)))
      (before_max k x y (rw (start_else v x y e) at h))))
      (true_or_false (minus_zero v))

  pub less_start : less v a b j ≡ less v (λ k. a (start_at v x y + k)) (λ k. b (start_at v x y + k)) (j - start_at v x y)
  less_start =
      let e : j ≡ start_at v x y + (j - start_at v x y) = omega (arith, start_low v j x y hx hy) in
      ap (less v a b) e ∙ less_skip v a b (start_at v x y) (j - start_at v x y) idle
