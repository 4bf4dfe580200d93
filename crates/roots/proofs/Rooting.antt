-- The rounded root, from a whole root and what is left or from the whole number nearest to it, for either format. Nothing here is about how the digits were
-- found. Assumes nothing.
use Rattle.std.proofs.Common.{◌≡◌, ℕ, zero, suc, ◌+◌, ◌-◌, ◌*◌, ◌/◌, ◌%◌, ◌^◌, ◌<◌, ◌≤◌, min, Bool, true, false, cond, not, T, leb, sym, refl, ap, ◌∙◌, subst, true≢false, le_trans, le_of_eq, lt_of_lt_of_le, le_of_suc-le-suc, lt_of_le_of_lt, mul-le-mul_right, mul_assoc, mul_comm, div-lt_iff_lt-mul, le_antisymm, mul-le-mul_left, mul-lt-mul_of_pos_right, mul-pos, lt_of_not-le, zero-add, mul-one, not-le_of_lt, mul-div_cancel, arith, leb→le, pow_pos, pow-add, shl_lt, shl_exact}
use Prim.Native.Nat.{compare}
use native.Mathlib.Nat.{pow-succ'}
use lib.Dec.{nleb→lt}
use lib.Ieee.{Float, nan, inf, fin, Format, prec, low, up, down, size, nearest, units, hid, ones, of_bits}
use lib.Ieee.Digits.{size-le}
use lib.Ieee.Fits.{two, two-le_pos, down_pos}
use lib.Ieee.Exact.{HasValue}
use Rattle.roots.specs.Roots.{grow, whole_root, root, NearestRoot, rooted}
use Rattle.numbers.proofs.Write.{size_gt, twice_hid, units_bits}
use Rattle.numbers.proofs.Word.{below_half, above_half, below_pow}

-- ---- squares

pub square_mono : (a b : ℕ) → a ≤ b → a * a ≤ b * b
square_mono a b h = le_trans (mul-le-mul_right a h) (mul-le-mul_left b h)

pub square_lt : (a b : ℕ) → a * a < b * b → a < b
square_lt a b h = lt_of_not-le (λ (g : b ≤ a). not-le_of_lt h (square_mono b a g))

-- w is the whole part of the root of n
abbrev pub Whole : ℕ → ℕ → Type 0
Whole n w = (w * w ≤ n) × (n < suc w * suc w)

whole_le : (n v w : ℕ) → Whole n v → Whole n w → v ≤ w
whole_le n v w a b = le_of_suc-le-suc (square_lt v (suc w) (lt_of_le_of_lt a.0 b.1))

whole_unique : (n v w : ℕ) → Whole n v → Whole n w → v ≡ w
whole_unique n v w a b = le_antisymm (whole_le n v w a b) (whole_le n w v b a)

-- ---- `whole_root` finds it

grown : (n v : ℕ) → Whole (n / 4) v → Whole n (grow n (2 * v))
unfolding grow
grown n v h = go (leb (suc (2 * v) * suc (2 * v)) n) (leb→le (suc (2 * v) * suc (2 * v)) n) (nleb→lt (suc (2 * v) * suc (2 * v)) n)
  where
    under : v * v ≤ n / 4 → 2 * v * (2 * v) ≤ n
    under l = omega arith

    above : n / 4 < suc v * suc v → n < suc (suc (2 * v)) * suc (suc (2 * v))
    above l = omega arith

    go : (b : Bool) → (T b → suc (2 * v) * suc (2 * v) ≤ n) → (T (not b) → n < suc (2 * v) * suc (2 * v)) → Whole n (cond b (suc (2 * v)) (2 * v))
    go true l g = (l tt, above h.1)
    go false l g = (under h.0, g tt)

four_more : (d : ℕ) → 2 ^ (2 * suc d) ≡ 2 ^ (2 * d) * 4
four_more d = ap (λ (x : ℕ). 2 ^ x) (twice d) ∙ pow-add 2 (2 * d) 2
  where
    twice : (d : ℕ) → 2 * suc d ≡ 2 * d + 2
    twice d = omega arith

pub whole_root_is : (d n : ℕ) → n < 2 ^ (2 * d) → Whole n (whole_root d n)
unfolding whole_root
whole_root_is zero n h = omega arith
whole_root_is (suc d) n h = grown n (whole_root d (n / 4)) (whole_root_is d (n / 4) ((div-lt_iff_lt-mul {k = 4} (omega arith)).1 (subst (λ (x : ℕ). n < x) (four_more d) h)))

-- ---- the root of a fraction that is m * 4 ^ k, in squared units, with m of twice the format's digits

abbrev pub at_drop : Format → ℕ → ℕ → ℕ → Float
at_drop f n den k =
    let q = whole_root (prec f) (n / (den * 2 ^ (2 * k))) in
    units f false (nearest q (compare (4 * n) ((2 * q + 1) * (2 * q + 1) * (den * 2 ^ (2 * k))))) k

pub root_is : (f : Format) (num den : ℕ) → root f num den ≡ at_drop f (num * 2 ^ (2 * low f)) den ((size (num * 2 ^ (2 * low f) / den) + 1) / 2 - prec f)
unfolding root
root_is f num den = refl

half_of : (z p k : ℕ) → 0 < p → z ≤ 2 * p + 2 * k → 2 * (p - 1) + 2 * k < z → (z + 1) / 2 - p ≡ k
half_of z p k P a b = omega arith

pub square_pow : (p : ℕ) → 2 ^ p * 2 ^ p ≡ 2 ^ (2 * p)
square_pow p = sym (pow-add 2 p p) ∙ ap (λ (x : ℕ). 2 ^ x) (twice p)
  where
    twice : (p : ℕ) → p + p ≡ 2 * p
    twice p = omega arith

module _ (f : Format) (num den m k q rest : ℕ) (D : 0 < den) (e : num * 2 ^ (2 * low f) ≡ m * (den * 2 ^ (2 * k))) (E : q * q + rest ≡ m) (R : rest ≤ 2 * q) (lo : hid f ≤ q) (hi : q < 2 ^ prec f) where
  m_whole : Whole m q
  m_whole = (omega arith, omega arith)

  m_lo : 2 ^ (2 * (prec f - 1)) ≤ m
  m_lo = le_trans (le_of_eq (sym (square_pow (prec f - 1)))) (le_trans (square_mono (hid f) q lo) m_whole.0)

  m_hi : m < 2 ^ (2 * prec f)
  m_hi = lt_of_lt_of_le m_whole.1 (le_trans (square_mono (suc q) (2 ^ prec f) hi) (le_of_eq (square_pow (prec f))))

  n_is : num * 2 ^ (2 * low f) / den ≡ m * 2 ^ (2 * k)
  n_is = ap (λ (x : ℕ). x / den) (e ∙ ap (λ (x : ℕ). m * x) (mul_comm den (2 ^ (2 * k))) ∙ sym (mul_assoc m (2 ^ (2 * k)) den)) ∙ mul-div_cancel (m * 2 ^ (2 * k)) D

  dropped : (size (num * 2 ^ (2 * low f) / den) + 1) / 2 - prec f ≡ k
  dropped =
      ap (λ (x : ℕ). (size x + 1) / 2 - prec f) n_is
      ∙ half_of (size (m * 2 ^ (2 * k))) (prec f) k (two-le_pos (prec f) (two f))
      (size-le (m * 2 ^ (2 * k)) (2 * prec f + 2 * k) (lt_of_lt_of_le (mul-lt-mul_of_pos_right m_hi (pow_pos (2 * k))) (le_of_eq (sym (pow-add 2 (2 * prec f) (2 * k))))))
      (size_gt (m * 2 ^ (2 * k)) (2 * (prec f - 1) + 2 * k) (le_trans (le_of_eq (pow-add 2 (2 * (prec f - 1)) (2 * k))) (mul-le-mul_right (2 ^ (2 * k)) m_lo)))

  u_pos : 0 < den * 2 ^ (2 * k)
  u_pos = mul-pos D (pow_pos (2 * k))

  found : whole_root (prec f) (num * 2 ^ (2 * low f) / (den * 2 ^ (2 * k))) ≡ q
  found =
      ap (λ (x : ℕ). whole_root (prec f) (x / (den * 2 ^ (2 * k)))) e
      ∙ ap (whole_root (prec f)) (mul-div_cancel m u_pos)
      ∙ whole_unique m (whole_root (prec f) m) q (whole_root_is (prec f) m m_hi) m_whole

  root_units : root f num den ≡ units f false (nearest q (compare (4 * (m * (den * 2 ^ (2 * k)))) ((2 * q + 1) * (2 * q + 1) * (den * 2 ^ (2 * k))))) k
  root_units =
      root_is f num den
      ∙ ap (at_drop f (num * 2 ^ (2 * low f)) den) dropped
      ∙ ap (λ (x : ℕ). units f false (nearest x (compare (4 * (num * 2 ^ (2 * low f))) ((2 * x + 1) * (2 * x + 1) * (den * 2 ^ (2 * k))))) k) found
      ∙ ap (λ (x : ℕ). units f false (nearest q (compare (4 * x) ((2 * q + 1) * (2 * q + 1) * (den * 2 ^ (2 * k))))) k) e

  root_down : rest ≤ q → root f num den ≡ units f false q k
  root_down h =
      let l : 4 * m < (2 * q + 1) * (2 * q + 1) = omega arith in
      root_units ∙ ap (λ (x : ℕ). units f false x k)
      (below_half q (4 * (m * (den * 2 ^ (2 * k)))) ((2 * q + 1) * (2 * q + 1) * (den * 2 ^ (2 * k)))
      (subst (λ (x : ℕ). x < (2 * q + 1) * (2 * q + 1) * (den * 2 ^ (2 * k))) (mul_assoc 4 m (den * 2 ^ (2 * k))) (mul-lt-mul_of_pos_right l u_pos)))

  root_up : q < rest → root f num den ≡ units f false (suc q) k
  root_up h =
      let l : (2 * q + 1) * (2 * q + 1) < 4 * m = omega arith in
      root_units ∙ ap (λ (x : ℕ). units f false x k)
      (above_half q (4 * (m * (den * 2 ^ (2 * k)))) ((2 * q + 1) * (2 * q + 1) * (den * 2 ^ (2 * k)))
      (subst (λ (x : ℕ). (2 * q + 1) * (2 * q + 1) * (den * 2 ^ (2 * k)) < x) (mul_assoc 4 m (den * 2 ^ (2 * k))) (mul-lt-mul_of_pos_right l u_pos)))

-- ---- the nearest root, with no word of how it was found

pub near_le : (m p n : ℕ) → m < p * p → NearestRoot m n → n ≤ p
near_le m p zero h N = omega arith
near_le m p (suc q) h N = square_lt q p (omega arith)

pub near_ge : (m h n : ℕ) → h * h ≤ m → NearestRoot m n → h ≤ n
near_ge m h n l N = le_of_suc-le-suc (square_lt h (suc n) (omega arith))

-- there is no other
pub nearest_is_one : (m a b : ℕ) → NearestRoot m a → NearestRoot m b → a ≡ b
nearest_is_one m a b A B = le_antisymm (below a b A B) (below b a B A)
  where
    clash : (b d : ℕ) → NearestRoot m (suc b + d) → NearestRoot m b → ⊥
    clash b d P Q = omega arith

    apart : (x c : ℕ) → c ≤ x → x ≡ c + (x - c)
    apart x c l = omega arith

    below : (x y : ℕ) → NearestRoot m x → NearestRoot m y → x ≤ y
    below x y P Q = le_of_suc-le-suc (lt_of_not-le (λ (l : suc y ≤ x). clash y (x - suc y) (subst (NearestRoot m) (apart x (suc y) l) P) Q))

module _ (f : Format) (num den m k : ℕ) (D : 0 < den) (e : num * 2 ^ (2 * low f) ≡ m * (den * 2 ^ (2 * k)))
    (lo : hid f * hid f ≤ m) (hi : m < 2 ^ prec f * 2 ^ prec f) where
  q_lo : (q : ℕ) → m < suc q * suc q → hid f ≤ q
  q_lo q l = le_of_suc-le-suc (square_lt (hid f) (suc q) (lt_of_le_of_lt lo l))

  q_hi : (q : ℕ) → q * q ≤ m → q < 2 ^ prec f
  q_hi q l = square_lt q (2 ^ prec f) (lt_of_le_of_lt l hi)

  from_below : (n : ℕ) → NearestRoot m n → n * n ≤ m → root f num den ≡ units f false n k
  from_below n N l =
      root_down f num den m k n (m - n * n) D e (omega arith) (omega arith) (q_lo n (omega arith)) (q_hi n l) (omega arith)

  from_above : (n : ℕ) → NearestRoot m n → m < n * n → root f num den ≡ units f false n k
  from_above zero N l = absurd (omega arith)
  from_above (suc q) N l =
      let s : q * q ≤ m = omega arith in
      root_up f num den m k q (m - q * q) D e (omega arith) (omega arith) (q_lo q l) (q_hi q s) (omega arith)

  pub root_nearest : (n : ℕ) → NearestRoot m n → root f num den ≡ units f false n k
  root_nearest n N = go (leb (n * n) m) (leb→le (n * n) m) (nleb→lt (n * n) m)
    where
      go : (b : Bool) → (T b → n * n ≤ m) → (T (not b) → m < n * n) → root f num den ≡ units f false n k
      go true l g = from_below n N (l tt)
      go false l g = from_above n N (g tt)

-- ---- what roots are found of: q << j, for a q of w + 1 digits, loses none

module _ (q w j : ℕ) (lo : 2 ^ w ≤ q) (hi : q < 2 * 2 ^ w) (J : w + j ≤ 53) where
  q_lt : q < 2 ^ suc w
  q_lt = lt_of_lt_of_le hi (le_of_eq (sym (pow-succ' 2 w)))

  pub shifted : q * 2 ^ j % 2 ^ 64 ≡ q * 2 ^ j
  shifted = shl_exact (suc w) j 64 q_lt (omega arith)

  pub shifted_lt : q * 2 ^ j % 2 ^ 64 < 2 ^ 54
  shifted_lt =
      subst (λ (x : ℕ). x < 2 ^ 54) (sym shifted) (below_pow (q * 2 ^ j) (suc w + j) 54 (shl_lt (suc w) j q_lt) (omega arith))

  pub shifted_ge : 2 ^ w ≤ q * 2 ^ j % 2 ^ 64
  shifted_ge = subst (λ (x : ℕ). 2 ^ w ≤ x) (sym shifted) (le_trans lo (le_trans (le_of_eq (sym (mul-one q))) (mul-le-mul_left q (pow_pos j))))

-- the field k in its place
pub in_place : (k w : ℕ) → k < 2046 → w ≤ 52 → k * 2 ^ w % 2 ^ 64 ≡ k * 2 ^ w
in_place k w K W = shl_exact 11 w 64 (omega arith) (omega arith)

-- the leading digit of a format of w + 1 digits
pub hid_is : (f : Format) (w : ℕ) → prec f ≡ suc w → hid f ≡ 2 ^ w
hid_is f w P = ap (λ (x : ℕ). 2 ^ (x - 1)) P ∙ ap (λ (x : ℕ). 2 ^ x) (pred w)
  where
    pred : (w : ℕ) → suc w - 1 ≡ w
    pred w = omega arith

-- ---- the bits of r * 2 ^ k units, where nothing overflows

left : (a b : ℕ) → a ≤ b → min a b ≡ a
left a b h = omega arith

room : (k h r w o : ℕ) → w ≡ 2 * h → r ≤ w → (k + 2) * h ≤ o → k * h + r ≤ o
room k h r w o e a b = omega arith

pub bits_le : (f : Format) (r k : ℕ) → r ≤ 2 ^ prec f → k + 2 ≤ ones f → k * hid f + r ≤ ones f * hid f
bits_le f r k R K = room k (hid f) r (2 ^ prec f) (ones f * hid f) (twice_hid (prec f) (two-le_pos (prec f) (two f))) R (mul-le-mul_right (hid f) K)

pub plain_bits : (f : Format) (r k : ℕ) → r ≤ 2 ^ prec f → hid f ≤ r → k + 2 ≤ ones f → units f false r k ≡ of_bits f (k * hid f + r)
plain_bits f r k R L K = units_bits f false r k R (λ g. L) ∙ ap (of_bits f) (zero-add (min (k * hid f + r) (ones f * hid f)) ∙ left (k * hid f + r) (ones f * hid f) (bits_le f r k R K))

-- ---- `rooted` at a positive value n / c

pub rooted_at : (f : Format) (v : Float) (n c : ℕ) (y : Float) → 0 < n → HasValue v false n c
    → ((num den : ℕ) → 0 < den → num * c ≡ n * den → root f num den ≡ y) → rooted f v ≡ y
unfolding rooted
rooted_at f nan n c y P h g = absurd h
rooted_at f (inf s) n c y P h g = absurd h
rooted_at f (fin true m e) n c y P h g = absurd (true≢false h.0)
rooted_at f (fin false zero e) n c y P h g = absurd (none (n * down e) (mul-pos P (down_pos e)) (up e * c) (sym (mul_assoc 0 (up e) c) ∙ h.1))
  where
    none : (x : ℕ) → 0 < x → (z : ℕ) → 0 * z ≡ x → ⊥
    none x p z q = omega arith
rooted_at f (fin false (suc m) e) n c y P h g = g (suc m * up e) (down e) (down_pos e) h.1
