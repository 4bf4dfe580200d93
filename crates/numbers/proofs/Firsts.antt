-- The first number of which a test holds: there is one wherever `some` says so, or `count` counts any. Assumes nothing.
use Rattle.std.proofs.Common.{◌≡◌, ℕ, zero, suc, ◌<◌, Bool, true, false, ◌⊎◌, sym, refl, ap, ◌∙◌, inl, inr, ⊎_elim, true≢false, le_of_suc-le-suc, not-suc-le-zero, eq-or-lt_of_le, arith}
use Rattle.numbers.specs.Walks.{some, count}
use Rattle.numbers.proofs.Walking.{some_never}

-- p is the first of the numbers below n of which a test holds
pub record First (t : ℕ → Bool) (n p : ℕ) : Type 0 where
  pub below : p < n
  pub holds : t p ≡ true
  pub earlier : (q : ℕ) → q < p → t q ≡ false

pub record HasFirst (t : ℕ → Bool) (n : ℕ) : Type 0 where
  pub place : ℕ
  pub first : First t n place

module _ (t : ℕ → Bool) where
  wider : (n : ℕ) → HasFirst t n → HasFirst t (suc n)
  wider n f =
      let l = f.first.below in
      record { place = f.place; first = record { below = omega arith; holds = f.first.holds; earlier = f.first.earlier } }

  -- one is found, or there is none
  searched : (n : ℕ) → HasFirst t n ⊎ ((q : ℕ) → q < n → t q ≡ false)
  searched zero = inr (λ q l. absurd (not-suc-le-zero l))
  searched (suc n) = ⊎_elim (λ (f : HasFirst t n). inl (wider n f)) (λ h. last h (t n) refl) (searched n)
    where
      last : ((q : ℕ) → q < n → t q ≡ false) → (b : Bool) → t n ≡ b → HasFirst t (suc n) ⊎ ((q : ℕ) → q < suc n → t q ≡ false)
      last h true e = inl (record { place = n; first = record { below = omega arith; holds = e; earlier = h } })
      last h false e = inr (λ q l. ⊎_elim (λ (i : q ≡ n). ap t i ∙ e) (λ (i : q < n). h q i) (eq-or-lt_of_le (le_of_suc-le-suc l)))

  pub some_found : (n : ℕ) → some t n ≡ true → HasFirst t n
  some_found n e = ⊎_elim (λ f. f) (λ h. absurd (true≢false (sym e ∙ some_never t n h))) (searched n)

  count_never : (n : ℕ) → ((q : ℕ) → q < n → t q ≡ false) → count t n ≡ 0
  unfolding count
  count_never zero h = refl
  count_never (suc n) h = rw (h n (omega arith)) (count_never n (λ q l. h q (omega arith)))

  pub count_found : (n : ℕ) → 0 < count t n → HasFirst t n
  count_found n l = ⊎_elim (λ f. f) (λ h. let e = count_never n h in absurd (omega arith)) (searched n)
