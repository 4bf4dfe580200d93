-- The words of the library as bytes, low byte first, are the numbers of `Bytes`: what they read, what they write, and the part of a list that
-- is read or replaced. Assumes nothing.
use Prim.Native.Nat.{ℕ, zero, suc, ◌+◌, ◌*◌, ◌-◌, ◌/◌, ◌%◌, ◌^◌, ◌≤◌, ◌<◌}
use native.Mathlib.Omega.{arith}
use native.Mathlib.Nat.{pow-zero, pow-suc, add-zero}
use mathlib.Core.Path.{◌≡◌, refl, sym, ap, ◌∙◌}
use mathlib.Core.List.{List, ◌∷◌, append_assoc}
use lib.ListN.{length, get_or, take, drop}
use lib.Seq.{drop-drop}
use borrow.Rule.Slice.PartMut.{put_mid}
use Rattle.std.proofs.lemmas.List.{get_or-take, get_or-drop}
use Rattle.std.proofs.Math.Nat.{div-div-eq-div-mul}
use Rattle.std.specs.Int.{bytes_low_first, byte_at, byte_worth, sum_through}
use Rattle.job_records.specs.Bytes.{value_at, bytes_of, pasted}

-- one byte more at the end of a number
value_top : (w : ℕ) (s : List ℕ) (at : ℕ) → value_at (suc w) s at ≡ value_at w s at + get_or s (at + w) 0 * 256 ^ w
unfolding value_at
value_top zero s at = rw (add-zero at, pow-zero 256) (omega arith)
value_top (suc w) s at =
    let z : at + suc w ≡ suc at + w = omega arith in
    let r = value_top w s (suc at) in
    rw (z, pow-suc 256 w) (omega (arith, r))

-- what the library reads
pub read_low : (k : ℕ) (s : List ℕ) → sum_through (λ i. byte_worth i (get_or s i 0)) k ≡ value_at (suc k) s 0
unfolding value_at
read_low zero s = omega arith
read_low (suc k) s =
    let z : 0 + suc k ≡ suc k = omega arith in
    rw (read_low k s) (sym (rw z at (value_top (suc k) s 0)))

-- an element of a part of a list, and a number in it
pub part_get : (at n i : ℕ) (s : List ℕ) → i < n → get_or (take n (drop at s)) i 0 ≡ get_or s (at + i) 0
part_get at n i s h = get_or-take n (drop at s) i 0 h ∙ get_or-drop at s i 0

value_part : (w at n : ℕ) (s : List ℕ) (i : ℕ) → i + w ≤ n → value_at w (take n (drop at s)) i ≡ value_at w s (at + i)
unfolding value_at
value_part zero at n s i h = refl
value_part (suc w) at n s i h =
    let z : suc (at + i) ≡ at + suc i = omega arith in
    rw (part_get at n i s (omega arith), value_part w at n s (suc i) (omega arith), z)

pub value_in : (w at : ℕ) (s part : List ℕ) → part ≡ take (at + w - at) (drop at s) → value_at w part 0 ≡ value_at w s at
value_in w at s part e =
    let d : at + w - at ≡ w = omega arith in
    rw (e, d) (value_part w at w s 0 (omega arith) ∙ ap (value_at w s) (add-zero at))

-- the bytes of a number from the i-th up
byte_is : (i x : ℕ) → byte_at i x ≡ x / 256 ^ i % 256
byte_is zero x = rw (pow-zero 256) (omega arith)
byte_is (suc i) x = refl

low_first : (k i x : ℕ) → bytes_low_first i k x ≡ bytes_of k (x / 256 ^ i)
unfolding bytes_of
low_first zero i x = refl
low_first (suc k) i x = rw (byte_is i x, div-div-eq-div-mul x (256 ^ i) 256, ← pow-suc) (ap (λ (t : List ℕ). x / 256 ^ i % 256 ∷ t) (low_first k (suc i) x))

pub low_bytes : (k x : ℕ) → bytes_low_first 0 k x ≡ bytes_of k x
low_bytes k x = low_first k 0 x ∙ ap (bytes_of k) (let e : x / 256 ^ 0 ≡ x = rw (pow-zero 256) (omega arith) in e)

pub length_bytes : (w x : ℕ) → length (bytes_of w x) ≡ w
unfolding bytes_of
length_bytes zero x = refl
length_bytes (suc w) x = ap suc (length_bytes w (x / 256))

-- a part of a list replaced
pub put_pasted : (at k n : ℕ) (l xs ys : List ℕ) → xs ≡ ys → length ys ≡ n → k ≡ n → put_mid at k l xs ≡ pasted at ys l
unfolding pasted
put_pasted at k n l xs ys e h q =
    let d : k ≡ length ys = omega arith in
    rw (e, d, drop-drop) (sym (append_assoc (take at l) ys (drop (at + length ys) l)))
