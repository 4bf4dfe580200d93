-- The laws of copies and clears. Assumes nothing.
use mathlib.Core.Path.{◌≡◌, refl, sym, ap, ap₂, ◌∙◌, subst}
use mathlib.Core.Bool.{Bool, true, false}
use mathlib.Core.List.{List, [], ◌∷◌, ◌++◌, append-nil, append_assoc}
use Prim.Native.Nat.{ℕ, suc, ◌+◌, ◌-◌, ◌<◌, ◌≤◌, min}
use native.Mathlib.Nat.{le_of_eq, min-eq_left, min-eq_right}
use native.Mathlib.Omega.{arith}
use borrow.Author.Tests.{leb-true, leb-false}
use lib.Dec.{leb}
use Rattle.std.proofs.lemmas.List.{take-append-drop, take_min, drop-set-lt}
use lib.ListN.{length, get_or, set, take, drop, replicate, length-take, length-drop, length-replicate, drop_of_length-le}
use lib.Seq.{length-take-le, take-length, drop-drop, take-suc, take-suc-set}
use lib.Ieee.{Float}
use Rattle.numbers.specs.Notation.{num}
use Rattle.slices.specs.Slices.{copied, zeroed}

-- ---- a copy, element by element: so many are there, and behind them the rest is as found

module _ {A : Type 0} (m l₀ : List A) where
  abbrev pub CopiedTo : List A → ℕ → Type 0
  CopiedTo l i = (take i l ≡ take i m) × (drop i l ≡ drop i l₀)

  pub copied_more : (l : List A) (i : ℕ) (x : A) → CopiedTo l i → i < length m → i < length l → x ≡ get_or m i x → CopiedTo (set l i x) (i + 1)
  copied_more l i x h p q e =
      let n : i + 1 ≡ suc i = omega arith in
      let past : drop (i + 1) l ≡ drop (i + 1) l₀ = sym (drop-drop 1 i l) ∙ ap (drop 1) h.1 ∙ drop-drop 1 i l₀ in (
        rw n (take-suc-set l i x q ∙ ap (λ (z : List A). z ++ (x ∷ [])) h.0 ∙ ap (λ (y : A). take i m ++ (y ∷ [])) e ∙ sym (take-suc m i x p)),
        drop-set-lt (i + 1) l i x (omega arith) ∙ past,
      )

  rest_of : {i : ℕ} → i ≡ min (length l₀) (length m) → drop i l₀ ≡ drop (length m) l₀
  rest_of {i} e = go (leb (length m) (length l₀)) (leb-true (length m) (length l₀)) (leb-false (length m) (length l₀))
    where
      go : (t : Bool) → (t ≡ true → length m ≤ length l₀) → (t ≡ false → length l₀ < length m) → drop i l₀ ≡ drop (length m) l₀
      go true f g = let k : i ≡ length m = e ∙ min-eq_right (f refl) in ap (λ (n : ℕ). drop n l₀) k
      go false f g =
          let h = g refl in
          let k : i ≡ length l₀ = e ∙ min-eq_left (omega arith) in
          drop_of_length-le l₀ (le_of_eq (sym k)) ∙ sym (drop_of_length-le l₀ (omega arith))

  pub copied_whole_way : {l : List A} {i : ℕ} → CopiedTo l i → i ≡ min (length l₀) (length m) → l ≡ copied m l₀
  copied_whole_way {l} {i} h e =
      sym (take-append-drop i l)
      ∙ ap₂ (λ (x y : List A). x ++ y) (h.0 ∙ ap (λ (n : ℕ). take n m) e ∙ take_min (length l₀) m) (h.1 ∙ rest_of e)

-- between lists of one length a copy is the other list
pub copied_whole : {A : Type 0} (m l : List A) → length l ≡ length m → copied m l ≡ m
copied_whole m l e = rw (e, take-length m) (ap (λ x. m ++ x) (drop_of_length-le l (le_of_eq e)) ∙ append-nil m)

pub copied_as : {A : Type 0} (ns l : List A) {m k : List A} → m ≡ ns → length l ≡ length ns → k ≡ copied m l → k ≡ ns
copied_as {A} ns l e h c = c ∙ ap (λ (z : List A). copied z l) e ∙ copied_whole ns l h

-- over a list that is no longer, a copy is the front of the other
pub copied_front : {A : Type 0} (m l : List A) → length l ≤ length m → copied m l ≡ take (length l) m
copied_front {A} m l h = ap (λ (z : List A). take (length l) m ++ z) (drop_of_length-le l h) ∙ append-nil (take (length l) m)

-- the front of a list cleared, its rest as it was
pub cleared_front : (k : ℕ) (w : List Float) → k ≤ length w → replicate (length (take k w)) (num 0) ++ drop k w ≡ zeroed k w
cleared_front k w h = ap (λ (n : ℕ). replicate n (num 0) ++ drop k w) (length-take k w ∙ min-eq_left h)

-- ---- what is done on a part alone, the k elements from `at` on: these are replaced, and no others
module _ {A : Type 0} (at k : ℕ) (l : List A) (room : at + k ≤ length l) where
  part_long : length (take (at + k - at) (drop at l)) ≡ k
  part_long =
      let e : at + k - at ≡ k = omega arith in
      length-take-le (at + k - at) (drop at l) (rw (length-drop at l) (omega arith)) ∙ e

  replaced : (ns : List A) → take at l ++ (ns ++ drop (at + k - at) (drop at l)) ≡ take at l ++ ns ++ drop (at + k) l
  replaced ns =
      let e : at + (at + k - at) ≡ at + k = omega arith in
      ap (λ (z : List A). take at l ++ (ns ++ z)) (drop-drop (at + k - at) at l ∙ ap (λ (n : ℕ). drop n l) e)
      ∙ sym (append_assoc (take at l) ns (drop (at + k) l))

  -- k elements copied there
  pub copied_within : (ns : List A) {m ys : List A} → m ≡ ns → length ns ≡ k → ys ≡ copied m (take (at + k - at) (drop at l))
      → take at l ++ (ys ++ drop (at + k - at) (drop at l)) ≡ take at l ++ ns ++ drop (at + k) l
  copied_within ns e h c =
      ap (λ (z : List A). take at l ++ (z ++ drop (at + k - at) (drop at l))) (copied_as ns (take (at + k - at) (drop at l)) e (part_long ∙ sym h) c)
      ∙ replaced ns

-- or cleared
pub cleared_within : (at k : ℕ) (w : List Float) {ys : List Float} → at + k ≤ length w → ys ≡ replicate (length (take (at + k - at) (drop at w))) (num 0)
    → take at w ++ (ys ++ drop (at + k - at) (drop at w)) ≡ take at w ++ replicate k (num 0) ++ drop (at + k) w
cleared_within at k w room c =
    ap (λ (z : List Float). take at w ++ (z ++ drop (at + k - at) (drop at w))) (c ∙ ap (λ (n : ℕ). replicate n (num 0)) (part_long at k w room))
    ∙ replaced at k w room (replicate k (num 0))

-- ---- an array made of one number: its count is known without a look at it

pub room_made : {A : Type 0} (n : ℕ) (x : A) {k : ℕ} → k ≤ n → k ≤ length (replicate n x)
room_made n x {k} l = subst (λ m. k ≤ m) (sym (length-replicate n x)) l

pub part_made : {A : Type 0} (n : ℕ) (x : A) {k : ℕ} → k ≤ n → k ≡ length (take k (replicate n x))
part_made n x {k} l = sym (length-take-le k (replicate n x) (room_made n x l))
