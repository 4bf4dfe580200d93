-- What stands at a place of a list of bytes: the parts of what stands there, the number that stands there as bytes, and the header of a record.
-- Assumes nothing.
use Prim.Native.Nat.{ℕ, zero, suc, ◌+◌, ◌*◌, ◌/◌, ◌%◌, ◌^◌, ◌≤◌, ◌<◌}
use native.Mathlib.Omega.{arith}
use native.Mathlib.Nat.{add-zero, pow-zero, pow-suc, mod-add-div, eq-or-lt_of_le}
use mathlib.Core.Path.{◌≡◌, refl, sym, ap, subst, ◌∙◌}
use mathlib.Core.Logic.{⊎_elim}
use mathlib.Core.List.{List, [], ◌∷◌, ◌++◌, append_assoc, append-nil}
use lib.ListN.{length, length-append}
use lib.Seq.{get_or-append-add}
use Rattle.numbers.specs.Walks.{table, strung}
use Rattle.numbers.proofs.Tables.{table_ext}
use Rattle.job_records.specs.Bytes.{value_at, values_at, bytes_of}
use Rattle.job_records.specs.Records.{kind_at, length_at}
use Rattle.job.specs.Format.{record_of}
use Rattle.job_records.proofs.Words.{length_bytes}
use Rattle.job.proofs.Pasting.{length_strung}

-- ---- a number as bytes

value_cons : (w x : ℕ) (s : List ℕ) (at : ℕ) → value_at w (x ∷ s) (suc at) ≡ value_at w s at
unfolding value_at
value_cons zero x s at = refl
value_cons (suc w) x s at = rw (value_cons w x s (suc at))

value_bytes : (w x : ℕ) (t : List ℕ) → x < 256 ^ w → value_at w (bytes_of w x ++ t) 0 ≡ x
unfolding value_at bytes_of
value_bytes zero x t h = omega (arith, pow-zero 256)
value_bytes (suc w) x t h =
    let h' : x / 256 < 256 ^ w = omega (arith, pow-suc 256 w) in
    rw (value_cons w (x % 256) (bytes_of w (x / 256) ++ t) 0, value_bytes w (x / 256) t h', mod-add-div)

value_behind : (w : ℕ) (a t : List ℕ) (k : ℕ) → value_at w (a ++ t) (length a + k) ≡ value_at w t k
unfolding value_at
value_behind zero a t k = refl
value_behind (suc w) a t k =
    let z : suc (length a + k) ≡ length a + suc k = omega arith in
    rw (get_or-append-add a t k 0, z, value_behind w a t (suc k))

-- ---- what stands at a place

pub record Stands (s : List ℕ) (at : ℕ) (r : List ℕ) : Type 0 where
  pub before : List ℕ
  pub rest : List ℕ
  pub is : s ≡ before ++ (r ++ rest)
  pub place : length before ≡ at

pub stands_whole : (s : List ℕ) → Stands s 0 s
stands_whole s = record { before = []; rest = []; is = sym (append-nil s); place = refl }

pub moved : {s r : List ℕ} {a b : ℕ} → a ≡ b → Stands s a r → Stands s b r
moved {s} {r} e h = subst (λ (x : ℕ). Stands s x r) e h

-- the two parts of what stands there
pub stands_first : (a b : List ℕ) {s : List ℕ} {at : ℕ} → Stands s at (a ++ b) → Stands s at a
stands_first a b h =
    record {
      before = h.before;
      rest = b ++ h.rest;
      is = h.is ∙ ap (λ (x : List ℕ). h.before ++ x) (append_assoc a b h.rest);
      place = h.place;
    }

pub stands_second : (a b : List ℕ) (n : ℕ) {s : List ℕ} {at : ℕ} → length a ≡ n → Stands s at (a ++ b) → Stands s (at + n) b
stands_second a b n e h =
    record {
      before = h.before ++ a;
      rest = h.rest;
      is =
          h.is ∙ ap (λ (x : List ℕ). h.before ++ x) (append_assoc a b h.rest)
          ∙ sym (append_assoc h.before a (b ++ h.rest));
      place = length-append h.before a ∙ (let p = h.place in omega arith);
    }

-- each of a row, all as long as each other
pub stands_each : {s : List ℕ} {at : ℕ} (r : ℕ → List ℕ) (z n i : ℕ) → ((k : ℕ) → length (r k) ≡ z) → i < n
    → Stands s at (strung r n) → Stands s (at + z * i) (r i)
unfolding strung
stands_each r z zero i l p h = absurd (let y : ⊥ = omega arith in y)
stands_each {s} {at} r z (suc n) i l p h =
    ⊎_elim (λ q. subst (λ (k : ℕ). Stands s (at + z * k) (r k)) (sym q) (stands_second (strung r n) (r n) (z * n) (length_strung r z n l) h))
    (λ q. stands_each r z n i l q (stands_first (strung r n) (r n) h))
    (eq-or-lt_of_le (let y : i ≤ n = omega arith in y))

pub stands_within : {s r : List ℕ} {at : ℕ} → Stands s at r → at + length r ≤ length s
stands_within {s} {r} h =
    let e = ap length h.is ∙ length-append h.before (r ++ h.rest) in
    let f = length-append r h.rest in
    let p = h.place in
    omega arith

-- ---- the numbers that stand there as bytes

pub value_stands : {s : List ℕ} {at : ℕ} (w x : ℕ) → x < 256 ^ w → Stands s at (bytes_of w x) → value_at w s at ≡ x
value_stands {s} {at} w x l h =
    ap (λ (t : List ℕ). value_at w t at) h.is
    ∙ ap (value_at w (h.before ++ (bytes_of w x ++ h.rest))) (sym (add-zero (length h.before) ∙ h.place))
    ∙ value_behind w h.before (bytes_of w x ++ h.rest) 0
    ∙ value_bytes w x h.rest l

pub values_stand : {s : List ℕ} {at : ℕ} (w : ℕ) (x : ℕ → ℕ) (n : ℕ) → ((k : ℕ) → x k < 256 ^ w) → Stands s at (strung (λ k. bytes_of w (x k)) n)
    → values_at w n s at ≡ table x n
values_stand {s} {at} w x n l h =
    table_ext 0 (λ k. value_at w s (at + w * k)) x n
    (λ k p. value_stands w (x k) (l k) (stands_each (λ q. bytes_of w (x q)) w n k (λ q. length_bytes w (x q)) p h))

-- ---- the header of a record, and its body

pub record Header (s : List ℕ) (at kind len : ℕ) : Type 0 where
  pub length_is : length_at s at ≡ len
  pub kind_is : kind_at s at ≡ kind
  pub whole : at + 4 + len ≤ length s

header_length : (a b : ℕ) → length (bytes_of 2 a ++ bytes_of 2 b) ≡ 4
header_length a b = length-append (bytes_of 2 a) (bytes_of 2 b) ∙ omega (arith, length_bytes 2 a, length_bytes 2 b)

pub body_stands : (kind : ℕ) (body : List ℕ) {s : List ℕ} {at : ℕ} → Stands s at (record_of kind body) → Stands s (at + 4) body
body_stands kind body h = stands_second (bytes_of 2 (length body) ++ bytes_of 2 kind) body 4 (header_length (length body) kind) h

pub header_stands : (kind len : ℕ) (body : List ℕ) {s : List ℕ} {at : ℕ} → length body ≡ len → kind < 256 ^ 2 → len < 256 ^ 2
    → Stands s at (record_of kind body) → Header s at kind len
header_stands kind len body e k l h =
    let n = bytes_of 2 (length body) in
    let m = bytes_of 2 kind in
    let w = stands_within (body_stands kind body h) in
    let head = stands_first (n ++ m) body h in
    record {
      length_is = value_stands 2 (length body) (subst (λ (x : ℕ). x < 256 ^ 2) (sym e) l) (stands_first n m head) ∙ e;
      kind_is = value_stands 2 kind k (stands_second n m 2 (length_bytes 2 (length body)) head);
      whole = omega arith;
    }
