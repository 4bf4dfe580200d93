-- Numbers as bytes and back: the bytes of what some bytes stand for are those bytes; of one number, of a row of numbers, of a record. Assumes nothing.
use Prim.Native.Nat.{ℕ, zero, suc, ◌+◌, ◌*◌, ◌/◌, ◌%◌, ◌^◌, ◌≤◌, ◌<◌}
use native.Mathlib.Omega.{arith}
use native.Mathlib.Nat.{pow-suc, pow-zero, mul-zero, add-mul-div_left, add-mul-mod_self_left, div-eq_of_lt, mod-eq_of_lt}
use mathlib.Core.Path.{◌≡◌, refl, sym, ap, subst, ◌∙◌}
use mathlib.Core.List.{List, ◌++◌}
use lib.Dec.{lit<}
use lib.ListN.{length, get_or, take, drop, length-take, length-drop, get_or-append}
use lib.Seq.{drop-cons, take-add, drop-drop, get_or-append-add}
use Rattle.numbers.specs.Walks.{strung}
use Rattle.numbers.proofs.Tables.{get_d_table}
use Rattle.job_records.specs.Bytes.{value_at, values_at, bytes_of, bytes_from}
use Rattle.job_records.specs.Records.{length_at, kind_at}
use Rattle.job.specs.Format.{record_of}

-- every number of s is a byte
abbrev pub Bytes : List ℕ → Type 0
Bytes s = (k : ℕ) → get_or s k 0 < 256

-- w bytes stand for a number below 256 ^ w
pub value_small : (w : ℕ) (s : List ℕ) (at : ℕ) → Bytes s → value_at w s at < 256 ^ w
unfolding value_at
value_small zero s at b = omega (arith, pow-zero 256)
value_small (suc w) s at b = let r = value_small w s (suc at) b in let q = b at in omega (arith, pow-suc 256 w)

-- the bytes of what the bytes stand for are the bytes
pub bytes_value : (w : ℕ) (s : List ℕ) (at : ℕ) → Bytes s → at + w ≤ length s → bytes_of w (value_at w s at) ≡ take w (drop at s)
unfolding bytes_of value_at
bytes_value zero s at b h = refl
bytes_value (suc w) s at b h =
    let l : at < length s = omega arith in
    let m : (get_or s at 0 + 256 * value_at w s (suc at)) % 256 ≡ get_or s at 0 =
    add-mul-mod_self_left (get_or s at 0) 256 (value_at w s (suc at)) ∙ mod-eq_of_lt (b at) in
    let d : (get_or s at 0 + 256 * value_at w s (suc at)) / 256 ≡ value_at w s (suc at) =
    omega (arith, add-mul-div_left (get_or s at 0) (value_at w s (suc at)) {y = 256} (lit< tt), div-eq_of_lt (b at)) in
    rw (m, d, bytes_value w s (suc at) b (omega arith), drop-cons s at 0 l)

-- ---- one behind the other

pub strung_ext : (f g : ℕ → List ℕ) (n : ℕ) → ((i : ℕ) → i < n → f i ≡ g i) → strung f n ≡ strung g n
unfolding strung
strung_ext f g zero h = refl
strung_ext f g (suc n) h = rw (strung_ext f g n (λ i l. h i (omega arith)), h n (omega arith))

-- two parts that meet are one
pub part_join : (at n m : ℕ) (s x y : List ℕ) → x ≡ take n (drop at s) → y ≡ take m (drop (at + n) s) → x ++ y ≡ take (n + m) (drop at s)
part_join at n m s x y p q = rw (p, q, take-add n m (drop at s), drop-drop n at s)

part_length : (at n : ℕ) (s : List ℕ) → at + n ≤ length s → length (take n (drop at s)) ≡ n
part_length at n s h = simp (length-take, length-drop) (omega arith)

-- numbers behind do not change the bytes of those in front
pub bytes_from_front : (w n : ℕ) (ns more : List ℕ) (from : ℕ) → from + n ≤ length ns → bytes_from w n (ns ++ more) from ≡ bytes_from w n ns from
bytes_from_front w n ns more from h =
    strung_ext (λ i. bytes_of w (get_or (ns ++ more) (from + i) 0)) (λ i. bytes_of w (get_or ns (from + i) 0)) n
    (λ i l. ap (bytes_of w) (get_or-append ns more 0 (from + i) (omega arith)))

module _ (s : List ℕ) (b : Bytes s) where
  values_bytes : (w n at : ℕ) → at + w * n ≤ length s → strung (λ i. bytes_of w (value_at w s (at + w * i))) n ≡ take (w * n) (drop at s)
  unfolding strung
  values_bytes w zero at h = rw (mul-zero w) refl
  values_bytes w (suc n) at h =
      let z : w * n + w ≡ w * suc n = omega arith in
      part_join at (w * n) w s (strung (λ i. bytes_of w (value_at w s (at + w * i))) n) (bytes_of w (value_at w s (at + w * n)))
      (values_bytes w n at (omega arith)) (bytes_value w s (at + w * n) b (omega arith))
      ∙ ap (λ (k : ℕ). take k (drop at s)) z

  -- numbers read, put behind others and written from there on, are the bytes that they were read from
  pub numbers_back : (w n at from : ℕ) (ns : List ℕ) → length ns ≡ from → at + w * n ≤ length s
      → bytes_from w n (ns ++ values_at w n s at) from ≡ take (w * n) (drop at s)
  numbers_back w n at from ns e h =
      strung_ext (λ i. bytes_of w (get_or (ns ++ values_at w n s at) (from + i) 0)) (λ i. bytes_of w (value_at w s (at + w * i))) n
      (λ i l.
      ap (bytes_of w)
      (subst (λ (k : ℕ). get_or (ns ++ values_at w n s at) (k + i) 0 ≡ value_at w s (at + w * i)) e
      (get_or-append-add ns (values_at w n s at) i 0 ∙ get_d_table (λ k. value_at w s (at + w * k)) n i 0 l)))
      ∙ values_bytes w n at h

  -- a record with the header and the body that stand there is what stands there
  pub record_there : (at kind z : ℕ) (body : List ℕ) → at + 4 + z ≤ length s → kind_at s at ≡ kind → length_at s at ≡ z
      → body ≡ take z (drop (at + 4) s) → record_of kind body ≡ take (4 + z) (drop at s)
  record_there at kind z body h k l e =
      let n : length body ≡ z = ap length e ∙ part_length (at + 4) z s h in
      part_join at 4 z s (bytes_of 2 (length body) ++ bytes_of 2 kind) body
      (part_join at 2 2 s (bytes_of 2 (length body)) (bytes_of 2 kind)
      (ap (bytes_of 2) (n ∙ sym l) ∙ bytes_value 2 s at b (omega arith))
      (ap (bytes_of 2) (sym k) ∙ bytes_value 2 s (at + 2) b (omega arith)))
      e

  -- with it, the bytes up to its end
  pub passed : (at kind z : ℕ) (body before : List ℕ) → at + 4 + z ≤ length s → kind_at s at ≡ kind → length_at s at ≡ z
      → body ≡ take z (drop (at + 4) s) → take at s ≡ before → take (at + 4 + z) s ≡ before ++ record_of kind body
  passed at kind z body before h k l e t =
      let y : at + 4 + z ≡ at + (4 + z) = omega arith in
      ap (λ (n : ℕ). take n s) y ∙ take-add at (4 + z) s
      ∙ ap (λ (x : List ℕ). x ++ take (4 + z) (drop at s)) t
      ∙ ap (λ (x : List ℕ). before ++ x) (sym (record_there at kind z body h k l e))
