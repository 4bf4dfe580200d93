-- The search of row 26: labels renamed one by one, two labels made one, and that of every edge's ends. Assumes nothing.
use Prim.Native.Nat.{ℕ, ◌+◌, ◌<◌, ◌≤◌}
use native.Mathlib.Omega.{arith}
use native.Mathlib.Nat.{not-suc-le-zero}
use mathlib.Core.Path.{◌≡◌, refl, sym, ap, subst, ◌∙◌}
use mathlib.Core.Logic.{◌⊎◌, inl, inr, ⊎_elim}
use mathlib.Core.Bool.{Bool, true, false, true≢false}
use mathlib.Core.List.{List}
use lib.ListN.{length, get_or, set, length-set, get_or-eq_default}
use lib.Seq.{get_or-set_same, get_or-set_other}
use lib.Dec.{eqb, ltb}
use borrow.Author.Tests.{eqb-true, eqb-false, eq-eqb, ne_eqb, ltb-true, ltb-false}
use Rattle.numbers.proofs.Choices.{taken, left}
use Rattle.numbers.proofs.Filling.{get_d_within}
use Rattle.graph.specs.declared.Edge.{Edge}
use Rattle.graph.specs.Graph.{Graph}
use Rattle.graph.specs.Lent.{none}
use Rattle.checks.specs.Islands.{weighs}
use Rattle.checks.specs.Labels.{label_of, renamed, MergesTwo, Merges}

-- ---- one label renamed, up to pose n
pub record Renaming (old new : ℕ) (l₀ l : List ℕ) (n : ℕ) : Type 0 where
  pub most : n ≤ length l₀
  pub size : length l ≡ length l₀
  pub done : (x : ℕ) → x < n → label_of l x ≡ renamed old new (label_of l₀ x)
  pub rest : (x : ℕ) → n ≤ x → label_of l x ≡ label_of l₀ x

module _ (old new : ℕ) (l₀ : List ℕ) where
  pub rename_none : Renaming old new l₀ l₀ 0
  rename_none = record { most = omega arith; size = refl; done = λ x h. absurd (not-suc-le-zero h); rest = λ x h. refl }

  module _ (l l' : List ℕ) (n : ℕ) (r : Renaming old new l₀ l n) (b : n < length l)
      (s : length l' ≡ length l) (h : label_of l' n ≡ renamed old new (label_of l₀ n)) (o : (x : ℕ) → (x ≡ n → ⊥) → label_of l' x ≡ label_of l x) where
    rename_next : Renaming old new l₀ l' (n + 1)
    rename_next =
        let z = r.size in
        record {
          most = omega arith;
          size = s ∙ z;
          done = λ x q. at x q (eqb x n) (eqb-true x n) (eqb-false x n);
          rest = λ x q. o x (λ e. omega arith) ∙ r.rest x (omega arith);
        }
      where
        at : (x : ℕ) → x < n + 1 → (t : Bool) → (t ≡ true → x ≡ n) → (t ≡ false → x ≡ n → ⊥) → label_of l' x ≡ renamed old new (label_of l₀ x)
        at x q true y z = rw (y refl) h
        at x q false y z = let d = z refl in o x d ∙ r.done x (omega (arith, d))

  pub rename_store : (l : List ℕ) (n : ℕ) → Renaming old new l₀ l n → n < length l → get_or l n 0 ≡ old → Renaming old new l₀ (set l n new) (n + 1)
  rename_store l n r b e =
      let e' : label_of l₀ n ≡ old = sym (r.rest n (omega arith)) ∙ get_d_within l n none 0 b ∙ e in
      rename_next l (set l n new) n r b (length-set l n new)
      (get_or-set_same l n new none b ∙ taken (label_of l₀ n) (eq-eqb (label_of l₀ n) old e') refl)
      (λ x d. get_or-set_other l n x new none d)

  pub rename_keep : (l : List ℕ) (n : ℕ) → Renaming old new l₀ l n → n < length l → (get_or l n 0 ≡ old → ⊥) → Renaming old new l₀ l (n + 1)
  rename_keep l n r b d =
      let e : label_of l₀ n ≡ get_or l n 0 = sym (r.rest n (omega arith)) ∙ get_d_within l n none 0 b in
      rename_next l l n r b refl
      (r.rest n (omega arith) ∙ left new (ne_eqb (label_of l₀ n) old (λ h. d (sym e ∙ h))) refl)
      (λ x _. refl)

-- ---- two labels made one
flip : {a b : ℕ} {f f' : ℕ → ℕ} → MergesTwo a b f f' → MergesTwo b a f f'
flip j = record {
  same = j.same;
  ends = sym j.ends;
  apart = λ x y e. ⊎_elim (λ h. inl h) (λ h. inr (⊎_elim (λ g. inr g) (λ g. inl g) h)) (j.apart x y e);
}

rename_merges : (a b : ℕ) (f f' : ℕ → ℕ) → ((x : ℕ) → f' x ≡ renamed (f a) (f b) (f x)) → MergesTwo a b f f'
rename_merges a b f f' h = record {
  same = λ x y e. h x ∙ ap (renamed (f a) (f b)) e ∙ sym (h y);
  ends = h a ∙ sym (taken (f a) (eq-eqb (f a) (f a) refl) refl) ∙ sym (kept (eqb (f b) (f a)) refl);
  apart = λ x y e. split x y e (eqb (f x) (f a)) (eqb (f y) (f a)) refl refl;
}
  where
    -- b keeps its label
    kept : (t : Bool) → eqb (f b) (f a) ≡ t → f' b ≡ f b
    kept true e = h b ∙ sym (taken (f b) e refl)
    kept false e = h b ∙ sym (left (f b) e refl)

    moved : (x : ℕ) → eqb (f x) (f a) ≡ true → f' x ≡ f b
    moved x e = h x ∙ sym (taken (f x) e refl)

    stayed : (x : ℕ) → eqb (f x) (f a) ≡ false → f' x ≡ f x
    stayed x e = h x ∙ sym (left (f b) e refl)

    split : (x y : ℕ) → f' x ≡ f' y → (s t : Bool) → eqb (f x) (f a) ≡ s → eqb (f y) (f a) ≡ t
        → (f x ≡ f y) ⊎ ((f x ≡ f a) × (f y ≡ f b)) ⊎ ((f x ≡ f b) × (f y ≡ f a))
    split x y e true true p q = inl (eqb-true (f x) (f a) p ∙ sym (eqb-true (f y) (f a) q))
    split x y e true false p q = inr (inl (eqb-true (f x) (f a) p, sym (stayed y q) ∙ sym e ∙ moved x p))
    split x y e false true p q = inr (inr (sym (stayed x p) ∙ e ∙ moved y q, eqb-true (f y) (f a) q))
    split x y e false false p q = inl (sym (stayed x p) ∙ e ∙ stayed y q)

-- the smaller label becomes the larger; none, that of all poses past the end, is the largest
pub larger_merges : (l l' : List ℕ) (a b p q : ℕ) → p ≡ label_of l a → q ≡ label_of l b → p < q → q ≤ none → length l' ≡ length l
    → ((x : ℕ) → x < length l → label_of l' x ≡ renamed p q (label_of l x)) → MergesTwo a b (label_of l) (label_of l')
larger_merges l l' a b p q ep eq s m n h =
    rename_merges a b (label_of l) (label_of l') (λ x. all x (ltb x (length l)) (ltb-true x (length l)) (ltb-false x (length l)) ∙ (rw (ep, eq)))
  where
    all : (x : ℕ) (t : Bool) → (t ≡ true → x < length l) → (t ≡ false → length l ≤ x) → label_of l' x ≡ renamed p q (label_of l x)
    all x true y z = h x (y refl)
    all x false y z =
        let g : length l ≤ x = z refl in
        let e : label_of l x ≡ none = get_or-eq_default l none (omega arith) in
        let e' : label_of l' x ≡ none = get_or-eq_default l' none (omega arith) in
        e' ∙ sym e ∙ left q (ne_eqb (label_of l x) p (λ w. omega arith)) refl

pub smaller_merges : (l l' : List ℕ) (a b p q : ℕ) → p ≡ label_of l a → q ≡ label_of l b → q < p → p ≤ none → length l' ≡ length l
    → ((x : ℕ) → x < length l → label_of l' x ≡ renamed q p (label_of l x)) → MergesTwo a b (label_of l) (label_of l')
smaller_merges l l' a b p q ep eq s m n h = flip (larger_merges l l' b a q p eq ep s m n h)

pub same_merges : (l : List ℕ) (a b p q : ℕ) → p ≡ label_of l a → q ≡ label_of l b → q ≤ p → p ≤ q → MergesTwo a b (label_of l) (label_of l)
same_merges l a b p q ep eq s t = let e : p ≡ q = omega arith in record { same = λ x y h. h; ends = sym ep ∙ e ∙ eq; apart = λ x y h. inl h }

-- ---- the ends of every edge
module _ {P : Type 0} (g : Graph P Edge) (f : ℕ → ℕ) where
  pub merge_none : Merges g 0 f f
  merge_none = record { same = λ x y e. e; ends = λ k l. absurd (not-suc-le-zero l); least = λ t _ h. h }

  below : (n : ℕ) (C : ℕ → Type 0) → ((k : ℕ) → k < n → C k) → C n → (k : ℕ) → k < n + 1 → C k
  below n C h c k l = at (eqb k n) (eqb-true k n) (eqb-false k n)
    where
      at : (t : Bool) → (t ≡ true → k ≡ n) → (t ≡ false → k ≡ n → ⊥) → C k
      at true y z = subst C (sym (y refl)) c
      at false y z = let d = z refl in h k (omega (arith, d))

  pub merge_more : (n : ℕ) (f' f'' : ℕ → ℕ) → Merges g n f f' → weighs g n ≡ true → MergesTwo (g.a n) (g.b n) f' f'' → Merges g (n + 1) f f''
  merge_more n f' f'' m w j = record {
    same = λ x y e. j.same x y (m.same x y e);
    ends = below n (λ k. weighs g k ≡ true → f'' (g.a k) ≡ f'' (g.b k)) (λ k l v. j.same _ _ (m.ends k l v)) (λ _. j.ends);
    least = λ t h s x y e.
        let old : (x y : ℕ) → f' x ≡ f' y → t x ≡ t y = m.least t (λ k l. h k (omega arith)) s in
        let new : t (g.a n) ≡ t (g.b n) = h n (omega arith) w in
        ⊎_elim (λ q. old x y q)
        (λ q. ⊎_elim (λ r. old x _ r.0 ∙ new ∙ sym (old y _ r.1)) (λ r. old x _ r.0 ∙ sym new ∙ sym (old y _ r.1)) q)
        (j.apart x y e);
  }

  pub merge_skip : (n : ℕ) (f' : ℕ → ℕ) → Merges g n f f' → weighs g n ≡ false → Merges g (n + 1) f f'
  merge_skip n f' m w = record {
    same = m.same;
    ends = below n (λ k. weighs g k ≡ true → f' (g.a k) ≡ f' (g.b k)) m.ends (λ v. absurd (true≢false (sym v ∙ w)));
    least = λ t h s. m.least t (λ k l. h k (omega arith)) s;
  }
