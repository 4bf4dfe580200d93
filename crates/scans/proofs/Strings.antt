-- Rows of one width, strung one after another (`strung`, numbers): an array that is filled with them from the start.
-- Assumes nothing.
use mathlib.Core.Path.{◌≡◌, sym, ap, ap₂, ◌∙◌}
use mathlib.Core.List.{List, [], ◌∷◌, ◌++◌}
use Prim.Native.Nat.{ℕ, zero, suc, ◌+◌, ◌-◌, ◌*◌, ◌≤◌}
use native.Mathlib.Nat.{zero-add, suc-add, zero-mul, suc-mul}
use native.Mathlib.Numerals.{add-one}
use native.Mathlib.Omega.{arith}
use lib.ListN.{length, take, drop, set, replicate, length-replicate, length-set}
use lib.Seq.{take_at, drop-append-add, sets-eq}
use Rattle.numbers.specs.Walks.{strung}
use Rattle.numbers.proofs.Strung.{strung_long}

drop_replicate : {A : Type 0} (n r : ℕ) (z : A) → drop n (replicate (n + r) z) ≡ replicate r z
drop_replicate zero r z = ap (λ (m : ℕ). replicate m z) (zero-add r)
drop_replicate (suc n) r z = ap (λ (m : ℕ). drop (suc n) (replicate m z)) (suc-add n r) ∙ drop_replicate n r z

module _ {A : Type 0} (f : ℕ → List A) (w : ℕ) where
  -- l has N elements: the first k rows, and z in what is left
  pub record Filled (N : ℕ) (z : A) (l : List A) (k : ℕ) : Type 0 where
    pub long : length l ≡ N
    pub is : l ≡ strung f k ++ replicate (N - k * w) z

  pub filled_none : {N : ℕ} {z : A} {l : List A} → l ≡ replicate N z → Filled N z l 0
  unfolding strung
  filled_none {N} {z} {l} e =
      let h : N - 0 * w ≡ N = omega (arith, zero-mul w) in
      record { long = ap length e ∙ length-replicate N z; is = e ∙ ap (λ (m : ℕ). replicate m z) (sym h) }

  pub filled_end : {N : ℕ} {z : A} {l : List A} {k m : ℕ} → Filled N z l k → k ≡ m → l ≡ strung f m ++ replicate (N - m * w) z
  filled_end {N} {z} h e = h.is ∙ ap (λ (m : ℕ). strung f m ++ replicate (N - m * w) z) e

  module _ (wide : (k : ℕ) → length (f k) ≡ w) where
    grown : {N : ℕ} {z : A} {l : List A} {k : ℕ} → Filled N z l k → k * w + w ≤ N
        → take (k * w) l ++ f k ++ drop (k * w + w) l ≡ strung f (suc k) ++ replicate (N - suc k * w) z
    unfolding strung
    grown {N} {z} {l} {k} h b =
        let s : length (strung f k) ≡ k * w = strung_long f w wide k in
        let e : N - k * w ≡ w + (N - suc k * w) = omega (arith, suc-mul k w) in
        ap (λ (l : List A). take (k * w) l ++ f k ++ drop (k * w + w) l) h.is
        ∙ ap₂ (λ (a b : List A). a ++ f k ++ b)
        (take_at (strung f k) (replicate (N - k * w) z) (k * w) s)
        (ap (λ (m : ℕ). drop (m + w) (strung f k ++ replicate (N - k * w) z)) (sym s)
        ∙ drop-append-add (strung f k) (replicate (N - k * w) z) w
        ∙ ap (λ (m : ℕ). drop w (replicate m z)) e
        ∙ drop_replicate w (N - suc k * w) z)

    pub filled_more : {N : ℕ} {z : A} {l l' x : List A} (k : ℕ) → Filled N z l k → k * w + w ≤ N → x ≡ f k
        → l' ≡ take (k * w) l ++ x ++ drop (k * w + w) l → length l' ≡ length l → Filled N z l' (k + 1)
    filled_more {N} {z} {l} {l'} k h b e q s =
        record {
          long = s ∙ h.long;
          is = q ∙ ap (λ (x : List A). take (k * w) l ++ x ++ drop (k * w + w) l) e ∙ grown h b
              ∙ ap (λ (m : ℕ). strung f m ++ replicate (N - m * w) z) (sym (add-one k));
        }

-- a row of two, stored one after the other
pub filled_pair : {A : Type 0} {f : ℕ → List A} {N : ℕ} {z : A} {l : List A} {a b : A} (k : ℕ) → ((k : ℕ) → length (f k) ≡ 2) → Filled f 2 N z l k
    → k * 2 + 2 ≤ N → a ∷ b ∷ [] ≡ f k → Filled f 2 N z (set (set l (k * 2) a) (k * 2 + 1) b) (k + 1)
filled_pair {A} {f} {N} {z} {l} {a} {b} k wide h q e =
    filled_more f 2 wide k h q e
    (ap (λ (i : ℕ). set (set l (k * 2) a) i b) (add-one (k * 2)) ∙ sets-eq (a ∷ b ∷ []) l (k * 2) (let s : length l ≡ N = h.long in omega arith))
    (simp length-set)
