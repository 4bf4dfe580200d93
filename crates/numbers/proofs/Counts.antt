-- The finite values of a format, each as a count of smallest values: its digits times a power of two. Between two neighbours of one power there is no value,
-- and the last bit of a value's pattern is that of its digits. Assumes nothing.
use Rattle.std.proofs.Common.{◌≡◌, ℕ, suc, ◌+◌, ◌-◌, ◌*◌, ◌/◌, ◌%◌, ◌^◌, ◌<◌, ◌≤◌, Bool, true, false, cond, not, T, leb, ℤ, sym, ap, ◌∙◌, subst, inl, inr, le_trans, le_of_eq, le_refl, lt_of_lt_of_le, le_of_lt, mul-le-mul_right, mod-lt, mul_assoc, eq-zero-or-pos, lt_of_mul-lt-mul_right, eq-or-lt_of_le, mul-lt-mul_of_pos_right, mul-pos, not-le_of_lt, arith, leb→le, pow_pos, pow_mono, pow-add, shl_lt}
use native.Mathlib.Nat.{pow-succ'}
use lib.Dec.{nleb→lt}
use lib.Ieee.{Float, nan, inf, fin, Format, prec, emax, low, units, fits, is_nan, hid, ones, top, to_bits, of_fields}
use lib.Ieee.Digits.{back}
use lib.Ieee.Fits.{two, reach, two-le_pos}
use lib.Ieee.Bits.{of_bits-fits}
use lib.Ieee.Exact.{HasValue}
use lib.Ieee.Positive.{num, den, den_pos}
use Rattle.numbers.specs.Rounds.{ValueOf, Smaller, middle, twice}
use Rattle.numbers.proofs.Read.{by_fields, read_low, read_high, read_inf, no_nan_bits}
use Rattle.numbers.proofs.Word.{quotient_le, rest_zero}
use Rattle.numbers.proofs.Write.{pattern, over, value_to_bits, pattern_is, units_bits, twice_hid, hid_lt, carried, within_zero}

-- ---- a value's digits, and the power of two that they count

pub record Counted (f : Format) (s : Bool) (v : Float) : Type 0 where
  pub digits : ℕ
  pub dropped : ℕ
  pub value : HasValue v s (digits * 2 ^ dropped) (2 ^ low f)
  pub small : digits < 2 ^ prec f
  pub full : 0 < dropped → hid f ≤ digits
  pub room : prec f + dropped ≤ low f + suc (emax f)

abbrev pub count : {f : Format} {s : Bool} {v : Float} → Counted f s v → ℕ
count c = c.digits * 2 ^ c.dropped

above : (p e x : ℕ) → 2 ≤ p → 0 < x → x < 2 * e + 1 → p + (x - 1) ≤ e + p - 2 + suc e
above p e x P g l = omega arith

carry : (h w t : ℕ) → w ≡ 2 * h → t < h → h + t < w
carry h w t e l = omega arith

fit : (h w t : ℕ) → w ≡ 2 * h → t < h → t < w
fit h w t e l = omega arith

no_more : (h t : ℕ) → h ≤ h + t
no_more h t = omega arith

none : (P : Type 0) → 0 < 0 → P
none P l = absurd (omega arith)

by_sign : (f : Format) (s : Bool) (m : ℕ) (e : ℤ) → T (fits f (fin s m e)) → (t : Bool) × Counted f t (fin s m e)
unfolding is_nan
by_sign f s m e F =
    let x = fin s m e in
    let h = hid f in
    let b = to_bits f x % top f in
    let sign = leb (top f) (to_bits f x) in
    let H : 0 < h = pow_pos (prec f - 1) in
    let P : 0 < prec f = two-le_pos (prec f) (two f) in
    let W : 2 ^ prec f ≡ 2 * h = twice_hid (prec f) P in
    let t : b % h < h = mod-lt b H in
    let is : x ≡ of_fields f sign (b / h) (b % h) = by_fields f x F in
    let low-is : b / h ≡ 0 → x ≡ of_fields f sign 0 (b % h) = λ z. is ∙ ap (λ (y : ℕ). of_fields f sign y (b % h)) z in
    let l : b ≤ ones f * h = no_nan_bits f x F tt in
    elim (eq-or-lt_of_le (quotient_le h b (ones f) H l)) [
      | inl q ↦
          let z : x ≡ inf sign = is ∙ read_inf f sign (b / h) (b % h) q (rest_zero h b (ones f) l q) in
          let c : ◌≡◌ {A = ℕ} 0 1 = cc in
          absurd (omega arith)
      | inr g ↦
          elim (eq-zero-or-pos (b / h)) [
            | inl z ↦ (
              sign,
              record {
                digits = b % h;
                dropped = 0;
                value = subst (λ (y : Float). HasValue y sign (b % h * 2 ^ 0) (2 ^ low f)) (sym (low-is z)) (read_low f sign (b % h));
                small = fit h (2 ^ prec f) (b % h) W t;
                full = none (h ≤ b % h);
                room = within_zero (prec f) (emax f) (two f) (reach f);
              },
            )
            | inr p ↦ (
              sign,
              record {
                digits = h + b % h;
                dropped = b / h - 1;
                value = subst (λ (y : Float). HasValue y sign ((h + b % h) * 2 ^ (b / h - 1)) (2 ^ low f)) (sym is) (read_high f sign (b / h) (b % h) p g);
                small = carry h (2 ^ prec f) (b % h) W t;
                full = λ _. no_more h (b % h);
                room = above (prec f) (emax f) (b / h) (two f) p g;
              },
            )
          ]
    ]

pub counted : (f : Format) (s : Bool) (v : Float) → ValueOf f s v → Counted f s v
counted f s nan h = absurd h
counted f s (inf t) h = absurd h
counted f s (fin t m e) h =
    let (u, c) = by_sign f t m e h.1 in
    record { digits = c.digits; dropped = c.dropped; value = (h.0, c.value.1); small = c.small; full = c.full; room = c.room }

pub counted_below : {f : Format} {s : Bool} {v : Float} (c : Counted f s v) → count c < over f
counted_below {f} c = lt_of_lt_of_le (shl_lt (prec f) c.dropped c.small) (pow_mono c.room)

pub value_fits : (f : Format) (s : Bool) (v : Float) → ValueOf f s v → T (fits f v)
value_fits f s nan h = absurd h
value_fits f s (inf t) h = absurd h
value_fits f s (fin t m e) h = h.1

pub value_of : (f : Format) (s : Bool) (v : Float) (n c : ℕ) → T (fits f v) → HasValue v s n c → ValueOf f s v
value_of f s nan n c F h = h
value_of f s (inf t) n c F h = h
value_of f s (fin t m e) n c F h = (h.0, F)

pub units_fit : (f : Format) (s : Bool) (r k : ℕ) → r ≤ 2 ^ prec f → (0 < k → hid f ≤ r) → T (fits f (units f s r k))
units_fit f s r k R U = subst (λ (v : Float). T (fits f v)) (sym (units_bits f s r k R U)) (of_bits-fits f _)

-- ---- no value lies between q and q + 1 times a power of two

pub split : (q j k : ℕ) → k ≤ j → q * 2 ^ (j - k) * 2 ^ k ≡ q * 2 ^ j
split q j k l = mul_assoc q (2 ^ (j - k)) (2 ^ k) ∙ ap (λ (x : ℕ). q * x) (sym (pow-add 2 (j - k) k) ∙ ap (λ (x : ℕ). 2 ^ x) (back j k l))

step_up : (p j k : ℕ) → 0 < p → j < k → p + j ≤ p - 1 + k
step_up p j k P l = omega arith

some : (j k : ℕ) → j < k → 0 < k
some j k l = omega arith

pub no_value_between : (p q k r j : ℕ) → 0 < p → (0 < k → 2 ^ (p - 1) ≤ q) → r < 2 ^ p → q * 2 ^ k < r * 2 ^ j → suc q * 2 ^ k ≤ r * 2 ^ j
no_value_between p q k r j P U R h = go (leb k j) (leb→le k j) (nleb→lt k j)
  where
    go : (b : Bool) → (T b → k ≤ j) → (T (not b) → j < k) → suc q * 2 ^ k ≤ r * 2 ^ j
    go true l g =
        let e = split r j k (l tt) in
        le_trans (mul-le-mul_right (2 ^ k) (lt_of_mul-lt-mul_right (2 ^ k) (lt_of_lt_of_le h (le_of_eq (sym e))))) (le_of_eq e)
    go false l g =
        absurd (not-le_of_lt (lt_of_lt_of_le h (le_of_lt (shl_lt p j R)))
        (le_trans (pow_mono (step_up p j k P (g tt))) (le_trans (le_of_eq (pow-add 2 (p - 1) k)) (mul-le-mul_right (2 ^ k) (U (some j k (g tt)))))))

-- ---- the last bit of the pattern

bits_are : (f : Format) (s : Bool) (v : Float) (r j : ℕ) → r ≤ 2 ^ prec f → (0 < j → hid f ≤ r) → HasValue v s (r * 2 ^ j) (2 ^ low f)
    → to_bits f v ≡ cond s (top f) 0 + (j * hid f + r)
bits_are f s v r j R U h = value_to_bits f v s (r * 2 ^ j) h ∙ elim (eq-or-lt_of_le R) [
  | inl e ↦
      let P = two-le_pos (prec f) (two f) in
      let w : r ≡ 2 * hid f = e ∙ twice_hid (prec f) P in
      ap (pattern f s) (ap (λ (x : ℕ). x * 2 ^ j) w ∙ moved (hid f) (2 ^ j) ∙ ap (λ (x : ℕ). hid f * x) (sym (pow-succ' 2 j)))
      ∙ pattern_is f s (hid f) (suc j) (hid_lt (hid f) (2 ^ prec f) (pow_pos (prec f - 1)) (twice_hid (prec f) P), λ _. le_refl (hid f))
      ∙ ap (λ (x : ℕ). cond s (top f) 0 + x) (sym (carried j (hid f) r w))
  | inr l ↦ pattern_is f s r j (l, U)
]
  where
    moved : (h y : ℕ) → 2 * h * y ≡ h * (2 * y)
    moved h y = omega arith

pub hid_even : (f : Format) → hid f ≡ 2 * 2 ^ (prec f - 1 - 1)
hid_even f = twice_hid (prec f - 1) (one_left (prec f) (two f))
  where
    one_left : (p : ℕ) → 2 ≤ p → 0 < p - 1
    one_left p h = omega arith

last_bit : (s : Bool) (h g z j r : ℕ) → h ≡ 2 * g → (cond s (h * z) 0 + (j * h + r)) % 2 ≡ r % 2
last_bit true h g z j r e = subst (λ (y : ℕ). (y * z + (j * y + r)) % 2 ≡ r % 2) (sym e) (omega arith)
last_bit false h g z j r e = subst (λ (y : ℕ). (0 + (j * y + r)) % 2 ≡ r % 2) (sym e) (omega arith)

pub bits_parity : (f : Format) (s : Bool) (v : Float) (r j : ℕ) → r ≤ 2 ^ prec f → (0 < j → hid f ≤ r) → HasValue v s (r * 2 ^ j) (2 ^ low f)
    → to_bits f v % 2 ≡ r % 2
bits_parity f s v r j R U h =
    ap (λ (x : ℕ). x % 2) (bits_are f s v r j R U h) ∙ last_bit s (hid f) (2 ^ (prec f - 1 - 1)) (suc (ones f)) j r (hid_even f)

-- ---- two values by their counts

crossed : (v : Float) (s : Bool) (a c : ℕ) → HasValue v s a c → num v * c ≡ a * den v
crossed nan s a c h = absurd h
crossed (inf t) s a c h = absurd h
crossed (fin t m e) s a c h = h.1

between : {i j m n : ℕ} → i ≡ j → m ≡ n → j < n → i < m
between d e l = omega arith

module _ (v w : Float) (s : Bool) (a b c : ℕ) (C : 0 < c) (X : HasValue v s a c) (Y : HasValue w s b c) where
  left : num v * den w * c ≡ a * (den v * den w)
  left =
      let e : num v * c * den w ≡ a * den v * den w = ap (λ (z : ℕ). z * den w) (crossed v s a c X) in
      omega arith

  right : num w * den v * c ≡ b * (den v * den w)
  right =
      let e : num w * c * den v ≡ b * den w * den v = ap (λ (z : ℕ). z * den v) (crossed w s b c Y) in
      omega arith

  pub smaller : a < b → Smaller v w
  smaller l =
      let h : a * (den v * den w) < b * (den v * den w) = mul-lt-mul_of_pos_right l (mul-pos (den_pos v) (den_pos w)) in
      lt_of_mul-lt-mul_right c (between left right h)

  pub count_smaller : Smaller v w → a < b
  count_smaller l =
      let h : num v * den w * c < num w * den v * c = mul-lt-mul_of_pos_right l C in
      lt_of_mul-lt-mul_right (den v * den w) (between (sym left) (sym right) h)

  pub middle_is : middle v w * (2 * c) ≡ (a + b) * twice v w
  middle_is =
      let l : num v * den w * c ≡ a * (den v * den w) = left in
      let r : num w * den v * c ≡ b * (den v * den w) = right in
      omega arith
