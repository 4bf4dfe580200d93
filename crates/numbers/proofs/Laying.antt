-- Values laid one after another into a list, from a place on: the laws of the loops that fill, copy and store. Assumes nothing.
use Rattle.std.proofs.Common.{◌≡◌, ℕ, ◌+◌, ◌<◌, ◌≤◌, Bool, true, false, ltb, ◌⊎◌, List, length, get_or, set, replicate, sym, refl, ◌∙◌, subst, inl, inr, ⊎_elim, ne_of_gt, zero-add, ne_of_lt, arith, length-set, get_or-set_other, get_or-set_same, ext_get_or, below_more, ltb-false, ltb-true}
use lib.ListN.{length-replicate, get_or-replicate}
use Rattle.numbers.specs.Notation.{if_then}
use Rattle.numbers.specs.Walks.{table}
use Rattle.numbers.proofs.Tables.{is_table}

module _ {A : Type 0} (d : A) where
  -- l is l₀ with f 0, .. f (j - 1) from place `at` on
  pub record Laid (f : ℕ → A) (at : ℕ) (l₀ l : List A) (j : ℕ) : Type 0 where
    pub len : length l ≡ length l₀
    pub inside : (k : ℕ) → k < j → get_or l (at + k) d ≡ f k
    pub outside : (q : ℕ) → (q < at) ⊎ (at + j ≤ q) → get_or l q d ≡ get_or l₀ q d

  pub laid_none : (f : ℕ → A) (at : ℕ) (l : List A) → Laid f at l l 0
  laid_none f at l = record { len = refl; inside = λ k q. absurd (omega arith); outside = λ q _. refl }

  pub laid_more : {f : ℕ → A} {at : ℕ} {l₀ l : List A} {j : ℕ} (p : ℕ) {v : A} → Laid f at l₀ l j → p ≡ at + j → p < length l → v ≡ f j → Laid f at l₀ (set l p v) (j + 1)
  laid_more {f} {at} {l₀} {l} {j} p {v} h e q ev =
      record {
        len = length-set l p v ∙ h.len;
        inside = below_more (λ k. get_or (set l p v) (at + k) d ≡ f k) j
            (λ k r. let o : at + k < p = omega arith in get_or-set_other l p (at + k) v d (ne_of_lt o) ∙ h.inside k r)
            (subst (λ (x : ℕ). get_or (set l p v) x d ≡ f j) e (get_or-set_same l p v d q ∙ ev));
        outside = λ k r.
            ⊎_elim
            (λ (s : k < at). let o : k < p = omega arith in get_or-set_other l p k v d (ne_of_lt o) ∙ h.outside k (inl s))
            (λ (s : at + (j + 1) ≤ k).
            let o : p < k = omega arith in
            let t : at + j ≤ k = omega arith in
            get_or-set_other l p k v d (ne_of_gt o) ∙ h.outside k (inr t))
            r;
      }

  pub from_start : {f : ℕ → A} {l₀ l : List A} {i : ℕ} → Laid f 0 l₀ l i → (k : ℕ) → k < i → get_or l k d ≡ f k
  from_start {f} {l₀} {l} h k q = subst (λ (x : ℕ). get_or l x d ≡ f k) (zero-add k) (h.inside k q)

  -- a whole list, laid from another or with one value
  pub laid_from : {m l₀ l : List A} {i : ℕ} → Laid (λ k. get_or m k d) 0 l₀ l i → length l₀ ≡ length m → length l ≤ i → l ≡ m
  laid_from {m} {l₀} {l} {i} h e q = ext_get_or d l m (h.len ∙ e) (λ k p. from_start h k (omega arith))

  pub laid_with : {v : A} {l₀ l : List A} {i : ℕ} → Laid (λ _. v) 0 l₀ l i → length l ≤ i → l ≡ replicate (length l₀) v
  laid_with {v} {l₀} {l} {i} h q =
      ext_get_or d l (replicate (length l₀) v) (h.len ∙ sym (length-replicate (length l₀) v))
      (λ k p. let s : length l ≡ length l₀ = h.len in from_start h k (omega arith) ∙ sym (get_or-replicate (length l₀) k v d (omega arith)))

  -- laid up to m over one value
  pub laid_upto : (z : A) {f : ℕ → A} {l : List A} {j : ℕ} (n m : ℕ) → Laid f 0 (replicate n z) l j → j ≡ m → l ≡ table (λ k. if_then (ltb k m) (f k) z) n
  unfolding if_then
  laid_upto z {f} {l} {j} n m h e =
      is_table d l (λ k. if_then (ltb k m) (f k) z) n (h.len ∙ length-replicate n z) (λ k q. go k q (ltb k m) (ltb-true k m) (ltb-false k m))
    where
      go : (k : ℕ) → k < n → (b : Bool) → (b ≡ true → k < m) → (b ≡ false → m ≤ k) → get_or l k d ≡ if_then b (f k) z
      go k q true y _ = let r : k < m = y refl in from_start h k (omega arith)
      go k q false _ y = let r : m ≤ k = y refl in h.outside k (inr (omega arith)) ∙ get_or-replicate n k z d q
