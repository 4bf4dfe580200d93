-- Numbers read out of bytes and put into a part of a list, and numbers of a part of a list as bytes. Assumes nothing.
use Prim.Native.Nat.{ℕ, ◌+◌, ◌*◌, ◌-◌, ◌<◌, ◌≤◌}
use native.Mathlib.Omega.{arith}
use native.Mathlib.Nat.{add-zero, mul-zero}
use mathlib.Core.Path.{◌≡◌, ap}
use mathlib.Core.List.{List}
use lib.ListN.{length, get_or, set, length-take, length-drop}
use borrow.Rule.Slice.PartMut.{put_mid, mid_of}
use Rattle.numbers.specs.Walks.{table, strung}
use Rattle.numbers.proofs.Tables.{length_table}
use Rattle.job_records.specs.Bytes.{value_at, values_at, bytes_of, bytes_from, pasted}
use Rattle.job_records.proofs.Words.{part_get, put_pasted}
use Rattle.job.proofs.Pasting.{set_pasted, pasted_none}
use Rattle.job.proofs.Bytewise.{strung_ext}

-- as many numbers as a part is long, put into it
pub numbers_taken : (w p n : ℕ) (s : List ℕ) (at m : ℕ) (l xs : List ℕ) → xs ≡ values_at w m s at → m ≡ n
    → put_mid p (p + n - p) l xs ≡ pasted p (values_at w n s at) l
numbers_taken w p n s at m l xs e q = put_pasted p (p + n - p) n l xs (values_at w n s at) (rw q at e) (length_table _ n) (omega arith)

pub number_taken : (w p v : ℕ) (s : List ℕ) (at : ℕ) (l : List ℕ) → p < length l → v ≡ value_at w s at → set l p v ≡ pasted p (values_at w 1 s at) l
unfolding table
number_taken w p v s at l h e = let z : at + w * 0 ≡ at = omega (arith, mul-zero w) in rw (z, e) (set_pasted l p (value_at w s at) h)

-- the numbers of a part, as bytes
pub part_bytes : (w a n : ℕ) (l : List ℕ) → a + n ≤ length l
    → strung (λ i. bytes_of w (get_or (mid_of a (a + n - a) l) i 0)) (length (mid_of a (a + n - a) l)) ≡ bytes_from w n l a
part_bytes w a n l h =
    let d : a + n - a ≡ n = omega arith in
    let k : length (mid_of a n l) ≡ n = simp (length-take, length-drop) (omega arith) in
    rw (d, k)
    (strung_ext (λ i. bytes_of w (get_or (mid_of a n l) i 0)) (λ i. bytes_of w (get_or l (a + i) 0)) n (λ i q. ap (bytes_of w) (part_get a n i l q)))

pub one_number : (w i : ℕ) (l : List ℕ) → bytes_of w (get_or l i 0) ≡ bytes_from w 1 l i
unfolding strung
one_number w i l = rw (add-zero i)

-- what the numbers of a record make of the lists that they are put into
pub ruleset taking_steps = (numbers_taken, number_taken, pasted_none)
