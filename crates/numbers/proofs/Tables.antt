-- Laws of `table`: its length, its elements, a store, and a list filled index by index. Assumes nothing.
use Rattle.std.proofs.Common.{◌≡◌, ℕ, zero, suc, ◌<◌, Bool, true, false, eqb, List, [], ◌∷◌, ◌++◌, length, get_or, set, replicate, sym, refl, ◌∙◌, subst, ⊎_elim, le_of_suc-le-suc, not-suc-le-zero, eq-or-lt_of_le, add-one, length-append, length-set, get_or-set_other, get_or-set_same, ext_get_or, eqb-true}
use lib.ListN.{length-replicate, get_or-replicate, get_or-append}
use lib.Seq.{get_or_at}
use borrow.Author.Tests.{eqb-false}
use Rattle.numbers.specs.Walks.{table}

module _ {A : Type 0} where
  pub length_table : (f : ℕ → A) (n : ℕ) → length (table f n) ≡ n
  unfolding table
  length_table f zero = refl
  length_table f (suc n) = simp length-append (rw (length_table f n) (add-one n))

  pub get_d_table : (f : ℕ → A) (n i : ℕ) (d : A) → i < n → get_or (table f n) i d ≡ f i
  unfolding table
  get_d_table f zero i d l = absurd (not-suc-le-zero l)
  get_d_table f (suc n) i d l =
      ⊎_elim
      (λ (e : i ≡ n). subst (λ (j : ℕ). get_or (table f n ++ (f n ∷ [])) j d ≡ f j) (sym e)
      (get_or_at (table f n) (f n) [] d n (length_table f n)))
      (λ (h : i < n). get_or-append (table f n) (f n ∷ []) d i (subst (λ (m : ℕ). i < m) (sym (length_table f n)) h) ∙ get_d_table f n i d h)
      (eq-or-lt_of_le (le_of_suc-le-suc l))

  -- a list with as many elements, each the function's, is the table
  pub is_table : (d : A) (l : List A) (f : ℕ → A) (n : ℕ) → length l ≡ n → ((i : ℕ) → i < n → get_or l i d ≡ f i) → l ≡ table f n
  is_table d l f n e h =
      ext_get_or d l (table f n) (e ∙ sym (length_table f n))
      (λ i q. let q' : i < n = subst (λ (m : ℕ). i < m) e q in h i q' ∙ sym (get_d_table f n i d q'))

  pub table_ext : (d : A) (f g : ℕ → A) (n : ℕ) → ((i : ℕ) → i < n → f i ≡ g i) → table f n ≡ table g n
  table_ext d f g n h = is_table d (table f n) g n (length_table f n) (λ i q. get_d_table f n i d q ∙ h i q)

  pub replicate_table : (n : ℕ) (v : A) → replicate n v ≡ table (λ _. v) n
  replicate_table n v = is_table v (replicate n v) (λ _. v) n (length-replicate n v) (λ i q. get_or-replicate n i v v q)

  -- a store
  pub set_table : (d : A) (f g : ℕ → A) (n e : ℕ) (v : A) → e < n → v ≡ g e → ((i : ℕ) → (i ≡ e → ⊥) → f i ≡ g i) → set (table f n) e v ≡ table g n
  set_table d f g n e v l hv h =
      is_table d (set (table f n) e v) g n (length-set (table f n) e v ∙ length_table f n)
      (λ i q. at i q (eqb i e) (eqb-true i e) (eqb-false i e))
    where
      at : (i : ℕ) → i < n → (b : Bool) → (b ≡ true → i ≡ e) → (b ≡ false → i ≡ e → ⊥) → get_or (set (table f n) e v) i d ≡ g i
      at i q true y z = rw (y refl) (get_or-set_same (table f n) e v d (subst (λ (m : ℕ). e < m) (sym (length_table f n)) l) ∙ hv)
      at i q false y z = get_or-set_other (table f n) e i v d (z refl) ∙ get_d_table f n i d q ∙ h i (z refl)

-- what stands in a list that is a table
pub table_read : {A : Type 0} (f : ℕ → A) (n p : ℕ) (d b : A) (m : List A) → m ≡ table f n → p < n → get_or m p d ≡ b → f p ≡ b
table_read f n p d b m e l h = sym (get_d_table f n p d l) ∙ (rw (← e) h)
