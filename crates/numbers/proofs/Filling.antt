-- Lists within and past their end, tables that are marked and filled, and lists filled from the front. Assumes nothing.
use Rattle.std.proofs.Common.{◌≡◌, ℕ, zero, suc, ◌+◌, ◌<◌, ◌≤◌, Bool, true, false, not, ◌&&◌, ◌||◌, eqb, ltb, List, [], ◌∷◌, ◌++◌, length, get_or, drop, set, replicate, sym, refl, ap, ◌∙◌, subst, le_of_suc-le-suc, not-suc-le-zero, lt_of_le_of_lt, lt_irrefl, add-one, arith, ltb-false, ltb-true, le-ltb, lt-ltb, eq-eqb, ne_eqb, eqb-true}
use mathlib.Core.Path.{fun_ext}
use mathlib.Core.Bool.{or-true, or-false, and-true, and-false}
use lib.ListN.{get_or-eq_default}
use lib.Ieee.{Float, nan}
use borrow.Author.Tests.{eqb-false}
use Rattle.numbers.specs.Notation.{if_then}
use Rattle.numbers.specs.Walks.{table}
use Rattle.numbers.proofs.Choices.{taken, left}
use Rattle.numbers.proofs.Tables.{table_ext, set_table}

-- ---- lists within and past their end

-- within, it doesn't matter what would stand past the end
pub get_d_within : {A : Type 0} (l : List A) (i : ℕ) (d e : A) → i < length l → get_or l i d ≡ get_or l i e
get_d_within [] i d e h = absurd (not-suc-le-zero h)
get_d_within (x ∷ l) zero d e h = refl
get_d_within (x ∷ l) (suc i) d e h = get_d_within l i d e (le_of_suc-le-suc h)

pub nan_past : (l : List Float) (n : ℕ) → length l ≤ n → ◌≡◌ {A = ℕ → Float} (λ _. nan) (λ j. get_or l (n + j) nan)
nan_past l n h = fun_ext (λ j. sym (get_or-eq_default l nan (omega arith)))

-- ---- a store at any number: past the end it changes nothing
abbrev pub put : {A : Type 0} → ℕ → List A → ℕ → A → List A
put n m e v = if_then (ltb e n) (set m e v) m

pub put_table : {A : Type 0} (d : A) (f g : ℕ → A) (n e : ℕ) (v : A) → v ≡ g e → ((i : ℕ) → (i ≡ e → ⊥) → f i ≡ g i) → put n (table f n) e v ≡ table g n
put_table {A} d f g n e v hv h = go (ltb e n) (ltb-true e n) (ltb-false e n)
  where
    go : (b : Bool) → (b ≡ true → e < n) → (b ≡ false → n ≤ e) → put n (table f n) e v ≡ table g n
    go true y z = sym (taken (table f n) (lt-ltb e n (y refl)) (sym (set_table d f g n e v (y refl) hv h)))
    go false y z =
        sym (left (set (table f n) e v) (le-ltb e n (z refl))
        (sym (table_ext d f g n (λ i q. h i (λ (w : i ≡ e). lt_irrefl n (lt_of_le_of_lt (z refl) (subst (λ (m : ℕ). m < n) w q)))))))

other_eqb : (a p : ℕ) → (p ≡ a → ⊥) → eqb a p ≡ false
other_eqb a p h = ne_eqb a p (λ e. h (sym e))

pub mark_table : (f : ℕ → Bool) (n e : ℕ) → put n (table f n) e true ≡ table (λ x. f x || eqb e x) n
mark_table f n e =
    put_table false f (λ x. f x || eqb e x) n e true
    (rw (eq-eqb e e refl) (sym (or-true (f e))))
    (λ i h. rw (other_eqb e i h) (sym (or-false (f i))))

pub clear_table : (f : ℕ → Bool) (n e : ℕ) → put n (table f n) e false ≡ table (λ x. f x && not (eqb e x)) n
clear_table f n e =
    put_table false f (λ x. f x && not (eqb e x)) n e false
    (rw (eq-eqb e e refl) (sym (and-false (f e))))
    (λ i h. rw (other_eqb e i h) (sym (and-true (f i))))

-- ---- a table of B filled up to p; z where it is not filled yet
abbrev pub filled : (ℕ → ℕ) → ℕ → ℕ → ℕ → ℕ
filled B z p q = if_then (ltb q p) (B q) z

module _ (B : ℕ → ℕ) (z : ℕ) where
  filled_in : (p q : ℕ) → q < p → B q ≡ filled B z p q
  filled_in p q l = taken z (lt-ltb q p l) refl

  filled_out : (p q : ℕ) → p ≤ q → z ≡ filled B z p q
  filled_out p q l = left (B q) (le-ltb q p l) refl

  filled_other : (p q : ℕ) → (q ≡ p → ⊥) → filled B z p q ≡ filled B z (p + 1) q
  filled_other p q h = go (ltb q p) (ltb-true q p) (ltb-false q p)
    where
      go : (b : Bool) → (b ≡ true → q < p) → (b ≡ false → p ≤ q) → filled B z p q ≡ filled B z (p + 1) q
      go true y n = let l : q < p = y refl in sym (filled_in p q l) ∙ filled_in (p + 1) q (omega arith)
      go false y n = let l : p ≤ q = n refl in sym (filled_out p q l) ∙ filled_out (p + 1) q (omega (arith, h))

  pub fill_none : (n : ℕ) → table (λ _. z) n ≡ table (filled B z 0) n
  fill_none n = table_ext z (λ _. z) (filled B z 0) n (λ q _. filled_out 0 q (omega arith))

  pub fill_store : (n p k : ℕ) (l : List ℕ) → p < n → l ≡ table (filled B z p) n → k ≡ B p → set l p k ≡ table (filled B z (p + 1)) n
  fill_store n p k l h e w = rw e (set_table z (filled B z p) (filled B z (p + 1)) n p k h (w ∙ filled_in (p + 1) p (omega arith)) (filled_other p))

  pub fill_keep : (n p : ℕ) (l : List ℕ) → l ≡ table (filled B z p) n → z ≡ B p → l ≡ table (filled B z (p + 1)) n
  fill_keep n p l e w = e ∙ table_ext z (filled B z p) (filled B z (p + 1)) n (λ q _. go q (eqb q p) (eqb-true q p) (eqb-false q p))
    where
      go : (q : ℕ) (b : Bool) → (b ≡ true → q ≡ p) → (b ≡ false → q ≡ p → ⊥) → filled B z p q ≡ filled B z (p + 1) q
      go q true y h = rw (y refl) (sym (filled_out p p (omega arith)) ∙ w ∙ filled_in (p + 1) p (omega arith))
      go q false y h = filled_other p q (h refl)

  pub fill_all : (n : ℕ) (l : List ℕ) → l ≡ table (filled B z n) n → l ≡ table B n
  fill_all n l e = e ∙ table_ext z (filled B z n) B n (λ q h. sym (filled_in n q h))

-- ---- one more element of a list filled from the front
module _ {A : Type 0} where
  fill_suc : (n : ℕ) (v : A) (l : List A) → n < length l → set (replicate n v ++ drop n l) n v ≡ replicate (suc n) v ++ drop (suc n) l
  fill_suc n v [] h = absurd (not-suc-le-zero h)
  fill_suc zero v (x ∷ l) h = refl
  fill_suc (suc n) v (x ∷ l) h = ap (λ (t : List A). v ∷ t) (fill_suc n v l (le_of_suc-le-suc h))

  pub fill_more : (n : ℕ) (v : A) (l : List A) → n < length l → set (replicate n v ++ drop n l) n v ≡ replicate (n + 1) v ++ drop (n + 1) l
  fill_more n v l h = rw (add-one n) (fill_suc n v l h)
