-- The laws of lists put into another: nothing put, one number stored, one list behind the other, and lengths. Assumes nothing.
use Prim.Native.Nat.{ℕ, zero, suc, ◌+◌, ◌*◌, ◌≤◌, ◌<◌}
use native.Mathlib.Omega.{arith}
use native.Mathlib.Nat.{add-zero, mul_comm}
use mathlib.Core.Path.{◌≡◌, refl, sym, ap, ◌∙◌}
use mathlib.Core.List.{List, [], ◌∷◌, ◌++◌, append_assoc, append-nil}
use lib.ListN.{length, take, drop, set, length-append, length-drop}
use lib.Seq.{length-take-le, take_at, drop_at, drop-drop, set_split}
use Rattle.numbers.specs.Walks.{strung}
use Rattle.numbers.proofs.Strung.{strung_long}
use Rattle.job_records.specs.Bytes.{pasted}

-- the two parts of a list, one behind the other
pub take_drop : (n : ℕ) (l : List ℕ) → take n l ++ drop n l ≡ l
take_drop zero l = refl
take_drop (suc n) [] = refl
take_drop (suc n) (x ∷ l) = ap (λ (t : List ℕ). x ∷ t) (take_drop n l)

pub pasted_none : (at : ℕ) (l : List ℕ) → pasted at [] l ≡ l
unfolding pasted
pasted_none at l = rw (add-zero at, append-nil (take at l)) (take_drop at l)

pub length_pasted : (at : ℕ) (ys l : List ℕ) → at + length ys ≤ length l → length (pasted at ys l) ≡ length l
unfolding pasted
length_pasted at ys l h = simp (length-append, length-drop, length-take-le at l (omega arith)) (omega arith)

-- one list behind the other
pub pasted_more : (at p : ℕ) (xs ys l : List ℕ) → p ≡ at + length xs → p + length ys ≤ length l → pasted p ys (pasted at xs l) ≡ pasted at (xs ++ ys) l
unfolding pasted
pasted_more at p xs ys l e h =
    let n : length (take at l ++ xs) ≡ p = simp (length-append, length-take-le at l (omega arith)) (omega arith) in
    let t : take p (take at l ++ xs ++ drop (at + length xs) l) ≡ take at l ++ xs = take_at (take at l ++ xs) (drop (at + length xs) l) p n in
    let d : drop (p + length ys) (take at l ++ xs ++ drop (at + length xs) l) ≡ drop (at + length (xs ++ ys)) l =
    sym (drop-drop (length ys) p (take at l ++ xs ++ drop (at + length xs) l))
    ∙ ap (drop (length ys)) (drop_at (take at l ++ xs) (drop (at + length xs) l) p n)
    ∙ drop-drop (length ys) (at + length xs) l
    ∙ ap (λ (k : ℕ). drop k l) (let q : at + length xs + length ys ≡ at + length (xs ++ ys) = rw (length-append xs ys) (omega arith) in q) in
    rw (t, d, append_assoc (take at l) xs ys)

-- one number stored
pub set_pasted : (m : List ℕ) (p v : ℕ) → p < length m → set m p v ≡ pasted p (v ∷ []) m
unfolding pasted
set_pasted m p v h =
    let z : p + 1 ≡ suc p = omega arith in
    rw z (set_split m p v h ∙ sym (append_assoc (take p m) (v ∷ []) (drop (suc p) m)))

-- records all as long as each other
pub length_strung : (f : ℕ → List ℕ) (z n : ℕ) → ((i : ℕ) → length (f i) ≡ z) → length (strung f n) ≡ z * n
length_strung f z n h = strung_long f z h n ∙ mul_comm n z
