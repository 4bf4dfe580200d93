-- Lists of one width, one behind the other: their length, and an element by the number of its list. Assumes nothing.
use Rattle.std.proofs.Common.{◌≡◌, ℕ, zero, suc, ◌+◌, ◌*◌, ◌<◌, ◌≤◌, List, ◌++◌, length, get_or, sym, ap, ◌∙◌, subst, ap₂, ⊎_elim, le_of_suc-le-suc, not-suc-le-zero, mul-le-mul_right, suc-mul, eq-or-lt_of_le, zero-mul, arith, length-append, get_or-append-add}
use lib.ListN.{get_or-append}
use Rattle.numbers.specs.Walks.{strung}

module _ {A : Type 0} (f : ℕ → List A) (w : ℕ) where
  module _ (wide : (k : ℕ) → length (f k) ≡ w) where
    pub strung_long : (n : ℕ) → length (strung f n) ≡ n * w
    unfolding strung
    strung_long zero = sym (zero-mul w)
    strung_long (suc n) = length-append (strung f n) (f n) ∙ ap₂ (λ (a b : ℕ). a + b) (strung_long n) (wide n) ∙ sym (suc-mul n w)

    pub strung_at : (n k j : ℕ) (d : A) → k < n → j < w → get_or (strung f n) (k * w + j) d ≡ get_or (f k) j d
    unfolding strung
    strung_at zero k j d l i = absurd (not-suc-le-zero l)
    strung_at (suc n) k j d l i =
        ⊎_elim
        (λ (e : k ≡ n). subst (λ (m : ℕ). get_or (strung f n ++ f n) (m * w + j) d ≡ get_or (f m) j d) (sym e)
        (ap (λ (m : ℕ). get_or (strung f n ++ f n) (m + j) d) (sym (strung_long n)) ∙ get_or-append-add (strung f n) (f n) j d))
        (λ (h : k < n).
        let m : suc k * w ≤ n * w = mul-le-mul_right w h in
        let s : length (strung f n) ≡ n * w = strung_long n in
        let b : k * w + j < length (strung f n) = omega (arith, suc-mul k w) in
        get_or-append (strung f n) (f n) d (k * w + j) b ∙ strung_at n k j d h i)
        (eq-or-lt_of_le (le_of_suc-le-suc l))
