-- Numbers laid from a place on, several at a time; and what the list is then. Assumes nothing.
use mathlib.Core.Path.{◌≡◌, refl, sym, ap, ap₂, subst, ◌∙◌}
use mathlib.Core.Bool.{Bool, true, false}
use mathlib.Core.Logic.{inl, inr, ⊎_elim}
use mathlib.Core.List.{List, ◌++◌}
use Prim.Native.Nat.{ℕ, ◌+◌, ◌-◌, ◌<◌, ◌≤◌}
use native.Mathlib.Omega.{arith}
use borrow.Author.Tests.{ltb-true, ltb-false}
use lib.Dec.{ltb}
use lib.ListN.{length, get_or, take, drop, length-append, length-drop, get_or-append}
use borrow.Rule.Slice.PartMut.{put_mid}
use lib.Seq.{ext_get_or, get_or-take, get_or-drop, get_or-append-add, length-take-le, drop-drop}
use Rattle.numbers.specs.Walks.{table}
use Rattle.numbers.proofs.Laying.{Laid}
use Rattle.numbers.proofs.Tables.{length_table, get_d_table}

-- the list l with ns from `at` on
abbrev between : {A : Type 0} → ℕ → List A → List A → List A
between at ns l = take at l ++ (ns ++ drop (at + length ns) l)

module _ {A : Type 0} (d : A) (at : ℕ) (ns l : List A) (fits : at + length ns ≤ length l) where
  front_long : length (take at l) ≡ at
  front_long = length-take-le at l (omega arith)

  between_long : length (between at ns l) ≡ length l
  between_long = let t = front_long in let e = length-drop (at + length ns) l in simp length-append (omega arith)

  before : (q : ℕ) → q < at → get_or (between at ns l) q d ≡ get_or l q d
  before q h = get_or-append (take at l) _ d q (omega (arith, front_long)) ∙ get_or-take at l q d h

  behind : (k : ℕ) → get_or (between at ns l) (at + k) d ≡ get_or (ns ++ drop (at + length ns) l) k d
  behind k = ap (λ (x : ℕ). get_or (between at ns l) (x + k) d) (sym front_long) ∙ get_or-append-add (take at l) _ k d

  within : (k : ℕ) → k < length ns → get_or (between at ns l) (at + k) d ≡ get_or ns k d
  within k h = behind k ∙ get_or-append ns _ d k h

  past : (q : ℕ) → at + length ns ≤ q → get_or (between at ns l) q d ≡ get_or l q d
  past q h =
      let k : ℕ = q - (at + length ns) in
      let e : q ≡ at + (length ns + k) = omega arith in
      let s : at + length ns + k ≡ q = omega arith in
      ap (λ (x : ℕ). get_or (between at ns l) x d) e
      ∙ behind (length ns + k)
      ∙ get_or-append-add ns (drop (at + length ns) l) k d
      ∙ get_or-drop (at + length ns) l k d
      ∙ ap (λ (x : ℕ). get_or l x d) s

  -- ns written over as many numbers
  written : (ys : List A) (k : ℕ) → ys ≡ ns → k ≡ length ns → put_mid at k l ys ≡ between at ns l
  written ys k e q =
      ap₂ (λ (z : List A) (n : ℕ). take at l ++ (z ++ drop n (drop at l))) e q
      ∙ ap (λ (z : List A). take at l ++ (ns ++ z)) (drop-drop (length ns) at l)

module _ {A : Type 0} (d : A) {f : ℕ → A} {at : ℕ} {l₀ l : List A} {j : ℕ} (h : Laid d f at l₀ l j) where
  -- several more, written over as many
  pub laid_several : (ns ys : List A) (k : ℕ) → length ns ≡ k → at + j + k ≤ length l → ys ≡ ns → ((i : ℕ) → i < k → get_or ns i d ≡ f (j + i))
      → Laid d f at l₀ (put_mid (at + j) (at + j + k - (at + j)) l ys) (j + k)
  laid_several ns ys k long fits e v = rw (written d (at + j) ns l room ys (at + j + k - (at + j)) e (omega (arith, long))) laid
    where
      room : at + j + length ns ≤ length l
      room = omega (arith, long)

      inside : (q : ℕ) → q < j + k → (b : Bool) → (b ≡ true → q < j) → (b ≡ false → j ≤ q) → get_or (between (at + j) ns l) (at + q) d ≡ f q
      inside q s true y _ = let r : q < j = y refl in before d (at + j) ns l room (at + q) (omega arith) ∙ h.inside q r
      inside q s false _ y =
          let r : j ≤ q = y refl in
          let i : ℕ = q - j in
          let e : at + q ≡ at + j + i = omega arith in
          let t : j + i ≡ q = omega arith in
          ap (λ (x : ℕ). get_or (between (at + j) ns l) x d) e ∙ within d (at + j) ns l room i (omega (arith, long)) ∙ v i (omega arith) ∙ ap f t

      laid : Laid d f at l₀ (between (at + j) ns l) (j + k)
      laid =
          record {
            len = between_long d (at + j) ns l room ∙ h.len;
            inside = λ q s. inside q s (ltb q j) (ltb-true q j) (ltb-false q j);
            outside = λ q s.
                ⊎_elim
                (λ (t : q < at). before d (at + j) ns l room q (omega arith) ∙ h.outside q (inl t))
                (λ (t : at + (j + k) ≤ q). past d (at + j) ns l room q (omega (arith, long)) ∙ h.outside q (inr (omega arith)))
                s;
          }

  -- what the list is then
  pub laid_is : at + j ≤ length l₀ → l ≡ take at l₀ ++ (table f j ++ drop (at + j) l₀)
  laid_is fits =
      subst (λ (k : ℕ). l ≡ take at l₀ ++ (table f j ++ drop (at + k) l₀)) long
      (ext_get_or d l (between at (table f j) l₀) (h.len ∙ sym (between_long d at (table f j) l₀ room))
      (λ q _. place q (ltb q at) (ltb-true q at) (ltb-false q at) (ltb q (at + j)) (ltb-true q (at + j)) (ltb-false q (at + j))))
    where
      long : length (table f j) ≡ j
      long = length_table f j

      room : at + length (table f j) ≤ length l₀
      room = omega (arith, long)

      place : (q : ℕ) (a : Bool) → (a ≡ true → q < at) → (a ≡ false → at ≤ q) → (b : Bool) → (b ≡ true → q < at + j) → (b ≡ false → at + j ≤ q)
          → get_or l q d ≡ get_or (between at (table f j) l₀) q d
      place q true y _ b _ _ = let r : q < at = y refl in h.outside q (inl r) ∙ sym (before d at (table f j) l₀ room q r)
      place q false _ _ false _ z = let r : at + j ≤ q = z refl in h.outside q (inr r) ∙ sym (past d at (table f j) l₀ room q (omega (arith, long)))
      place q false _ y true z _ =
          let r : q < at + j = z refl in
          let s : at ≤ q = y refl in
          let k : ℕ = q - at in
          let e : at + k ≡ q = omega arith in
          let t : k < j = omega arith in
          subst (λ (x : ℕ). get_or l x d ≡ get_or (between at (table f j) l₀) x d) e
          (h.inside k t ∙ sym (within d at (table f j) l₀ room k (omega (arith, long)) ∙ get_d_table f j k d t))
