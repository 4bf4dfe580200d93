-- How large rounded sums, squares and roots can be, over the format. So the norm of up to 384 finite f32s is finite,
-- and so is a finite f32 plus a damping of at most 1e10, and half of a sum of squares. Assumes nothing.
use Rattle.std.proofs.Common.{◌≡◌, ℕ, zero, suc, ◌+◌, ◌-◌, ◌*◌, ◌/◌, ◌%◌, ◌^◌, ◌<◌, ◌≤◌, Bool, true, false, cond, not, ◌&&◌, T, eqb, ltb, leb, ℤ, pos, negsuc, sym, ap, ◌∙◌, subst, true≢false, zero-le, le_trans, le_of_eq, le_refl, lt_of_lt_of_le, le_of_suc-le-suc, lt_of_le_of_lt, le_of_lt, mul-le-mul_right, zero-lt-suc, mul_assoc, suc-mul, mul_comm, div-lt_iff_lt-mul, add-sub_of_le, mul-le-mul, lt_of_mul-lt-mul_right, mul-lt-mul_of_pos_right, mul-pos, zero-mul, mul-one, mul_right_comm, le_of_mul-le-mul_right, div-one, arith, lit<, lit≤, ltb→lt, leb→le, pow_pos, pow_mono, pow-add, shl_lt, ltb-false}
use mathlib.Core.Bool.{beq}
use native.Mathlib.Nat.{le-suc, mul-mul-mul_comm, mod-one}
use lib.Dec.{nleb→lt}
use lib.Ieee.{Float, nan, inf, fin, Format, binary32, binary64, prec, emax, low, up, down, size, odd, units, round, sum, add, mul, lt, le, fits, of_bits}
use lib.Ieee.Fits.{reach, down_pos, and_l, and_r, round_is}
use lib.Ieee.Bits.{is_true}
use lib.Ieee.Digits.{size-le}
use lib.Ieee.Exact.{HasValue, odd_sign, units_val}
use lib.Ieee.Nearest.{closest, closest_mono}
use lib.Ieee.Order.{drop, kept, round_mono}
use lib.Ieee.Scale.{grid, overflow, finite, round_val}
use Rattle.numbers.proofs.Counts.{split}
use Rattle.numbers.specs.Notation.{◌⊗◌, ◌⊞◌, num, ratio, ratio32}
use Rattle.numbers.specs.Walks.{sum_of}
use Rattle.roots.specs.Roots.{root, rooted, root64}
use Rattle.roots.proofs.Rooting.{square_lt, square_pow}
use Rattle.roots.proofs.Believe.{root_is_nearest}

-- x is finite, has no minus sign, and is n or less
pub data AtMost : ℕ → Float → Type 0 where
  upto : {n m : ℕ} {e : ℤ} → m * up e ≤ n * down e → AtMost n (fin false m e)

of_value : (x : Float) (n g c : ℕ) → 0 < c → g ≤ n * c → HasValue x false g c → AtMost n x
of_value nan n g c C l h = absurd h
of_value (inf s) n g c C l h = absurd h
of_value (fin true m e) n g c C l h = absurd (true≢false h.0)
of_value (fin false m e) n g c C l h = upto (le_of_mul-le-mul_right (le_trans (le_of_eq h.1) (le_trans (mul-le-mul_right (down e) l) (le_of_eq (mul_right_comm n c (down e))))) C)

finite_of_value : (x : Float) (s : Bool) (g c : ℕ) → HasValue x s g c → T (finite x)
finite_of_value nan s g c h = h
finite_of_value (inf t) s g c h = h
finite_of_value (fin t m e) s g c h = tt

overflow_is : (f : Format) → 2 ^ suc (emax f) * 2 ^ low f ≡ overflow f
overflow_is f = mul_comm (2 ^ suc (emax f)) (2 ^ low f) ∙ sym (pow-add 2 (low f) (suc (emax f)))

pub finite_at_most : {n : ℕ} {x : Float} → AtMost n x → T (finite x)
finite_at_most (upto h) = tt

-- ---- what is at or below a value of the format, q * 2 ^ j with q of no more digits than the format keeps, rounds to no more than that
closest_le : (n u r : ℕ) → 0 < u → n ≤ r * u → closest n u ≤ r
closest_le n u r U h = le_trans (closest_mono n u r 1 U (zero-lt-suc 0) (le_trans (le_of_eq (mul-one n)) h)) (le_of_eq (simp (div-one, mod-one)))

spare : (z p l : ℕ) → z ≤ p + l → z - p ≤ l
spare z p l h = omega arith

grid_le : (f : Format) (a c q j : ℕ) → 0 < c → q < 2 ^ prec f → a * 2 ^ low f ≤ q * 2 ^ j * c → grid f a c ≤ q * 2 ^ j
grid_le f a c q j C Q h =
    let n = a * 2 ^ low f in
    let k = drop (prec f) n c in
    let r = q * 2 ^ (j - k) in
    let e : r * 2 ^ k ≡ q * 2 ^ j = split q j k (spare (size (n / c)) (prec f) j (size-le (n / c) (prec f + j) ((div-lt_iff_lt-mul C).1 (lt_of_le_of_lt h (mul-lt-mul_of_pos_right (shl_lt (prec f) j Q) C))))) in
    let l : n ≤ r * (c * 2 ^ k) = le_trans h (le_of_eq (ap (λ (x : ℕ). x * c) (sym e) ∙ mul_assoc r (2 ^ k) c ∙ ap (λ (x : ℕ). r * x) (mul_comm (2 ^ k) c))) in
    le_trans (mul-le-mul_right (2 ^ k) (closest_le n (c * 2 ^ k) r (mul-pos C (pow_pos k)) l)) (le_of_eq e)

round_at_most : (f : Format) (a c q j : ℕ) → 0 < c → q < 2 ^ prec f → q * 2 ^ j < 2 ^ suc (emax f) → a ≤ q * 2 ^ j * c → AtMost (q * 2 ^ j) (round f false a c)
round_at_most f a c q j C Q R h =
    let l = 2 ^ low f in
    let e : q * 2 ^ (j + low f) ≡ q * 2 ^ j * l = ap (λ (x : ℕ). q * x) (pow-add 2 j (low f)) ∙ sym (mul_assoc q (2 ^ j) l) in
    let g : grid f a c ≤ q * 2 ^ j * l = le_trans (grid_le f a c q (j + low f) C Q (le_trans (mul-le-mul_right l h) (le_of_eq (mul_right_comm (q * 2 ^ j) c l ∙ ap (λ (x : ℕ). x * c) (sym e))))) (le_of_eq e) in
    of_value (round f false a c) (q * 2 ^ j) (grid f a c) l (pow_pos (low f)) g
    (round_val f a c (lt_of_le_of_lt g (lt_of_lt_of_le (mul-lt-mul_of_pos_right R (pow_pos (low f))) (le_of_eq (overflow_is f)))))

-- ---- sums
cross : (a b n m d g : ℕ) → a ≤ n * d → b ≤ m * g → a * g + b * d ≤ (n + m) * (d * g)
cross a b n m d g h k =
    let x : a * g ≤ n * d * g = mul-le-mul_right g h in
    let y : b * d ≤ m * g * d = mul-le-mul_right d k in
    omega arith

pub add_at_most : (f : Format) (n m q j : ℕ) (x y : Float) → q < 2 ^ prec f → q * 2 ^ j < 2 ^ suc (emax f) → n + m ≤ q * 2 ^ j → AtMost n x → AtMost m y → AtMost (q * 2 ^ j) (add f x y)
unfolding add
add_at_most f n m q j x y Q R l (upto {m = a} {e} h) (upto {m = b} {e = g} k) =
    round_at_most f (a * up e * down g + b * up g * down e) (down e * down g) q j (mul-pos (down_pos e) (down_pos g)) Q R
    (le_trans (cross (a * up e) (b * up g) n m (down e) (down g) h k) (mul-le-mul_right (down e * down g) l))

pub zero_at_most : (f : Format) (n : ℕ) → AtMost n (of_bits f 0)
unfolding of_bits
zero_at_most binary32 n = upto zero-le
zero_at_most binary64 n = upto zero-le

pub sum_at_most : (f : Format) (v : ℕ → Float) (n j : ℕ) → n < 2 ^ prec f → n * 2 ^ j < 2 ^ suc (emax f) → ((i : ℕ) → i < n → AtMost (2 ^ j) (v i)) → AtMost (n * 2 ^ j) (sum_of f v n)
unfolding sum_of
sum_at_most f v zero j Q R h = zero_at_most f (0 * 2 ^ j)
sum_at_most f v (suc n) j Q R h =
    add_at_most f (n * 2 ^ j) (2 ^ j) (suc n) j (sum_of f v n) (v n) Q R (le_of_eq (sym (suc-mul n (2 ^ j))))
    (sum_at_most f v n j (le_trans (le-suc (suc n)) Q) (lt_of_le_of_lt (mul-le-mul_right (2 ^ j) (le-suc n)) R) (λ i l. h i (le_trans l (le-suc n))))
    (h n (le_refl (suc n)))

-- ---- a larger bound; half of a value
pub at_most_more : {n : ℕ} {x : Float} (m : ℕ) → n ≤ m → AtMost n x → AtMost m x
at_most_more m l (upto {e} h) = upto (le_trans h (mul-le-mul_right (down e) l))

pub half_finite : (q j : ℕ) (x : Float) → q < 2 ^ 53 → q * 2 ^ j < 2 ^ 1024 → AtMost (q * 2 ^ j) x → finite (ratio 1 2 ⊗ x) ≡ true
unfolding ratio mul
half_finite q j x Q R (upto {m} {e} h) =
    is_true (finite (round binary64 false (1 * 1 * (m * up e)) (2 * down e)))
    (finite_at_most (round_at_most binary64 (1 * 1 * (m * up e)) (2 * down e) q j (mul-pos (zero-lt-suc 1) (down_pos e)) Q R (omega arith)))

-- ---- roots
root_le : (w k l a c m : ℕ) → 0 < c → w * w * (c * (k * k)) ≤ 4 * (a * (l * l)) → a ≤ m * m * c → w * k ≤ 2 * m * l
root_le w k l a c m C h g =
    let y : a * (l * l) ≤ m * m * c * (l * l) = mul-le-mul_right (l * l) g in
    let x : w * k * (w * k) * c ≤ 2 * m * l * (2 * m * l) * c = omega arith in
    le_of_suc-le-suc (square_lt (w * k) (suc (2 * m * l)) (lt_of_le_of_lt (le_of_mul-le-mul_right x C) (omega arith)))

root_finite : (f : Format) (a c m : ℕ) → 0 < c → a ≤ m * m * c → 2 * m < 2 ^ suc (emax f) → T (finite (root f a c))
root_finite f a c m C h M =
    let (r, k, e, N) = root_is_nearest f a c C in
    let l : (2 * r - 1) * 2 ^ k ≤ 2 * m * 2 ^ low f = root_le (2 * r - 1) (2 ^ k) (2 ^ low f) a c m C (rw (square_pow, square_pow) N.0) h in
    rw e (finite_of_value (units f false r k) false (r * 2 ^ k) (2 ^ low f) (units_val f false r k
    (lt_of_le_of_lt (mul-le-mul_right {m = r} {n = 2 * r - 1} (2 ^ k) (omega arith)) (lt_of_le_of_lt l (lt_of_lt_of_le (mul-lt-mul_of_pos_right M (pow_pos (low f))) (le_of_eq (overflow_is f)))))))

rooted_finite : (f : Format) (n m : ℕ) (x : Float) → n ≤ m * m → 2 * m < 2 ^ suc (emax f) → AtMost n x → T (finite (rooted f x))
unfolding rooted
rooted_finite f n m x l M (upto {m = zero} {e} h) = tt
rooted_finite f n m x l M (upto {m = suc a} {e} h) = root_finite f (suc a * up e) (down e) m (down_pos e) (le_trans h (mul-le-mul_right (down e) l)) M

-- ---- the largest value of a format
below : (x y : ℕ) → x < y → x ≤ y - 1
below x y h = omega arith

steps : (p t m : ℕ) (e : ℤ) → m < 2 ^ p → m * up e < 2 ^ (p + t) * down e → m * up e ≤ (2 ^ p - 1) * 2 ^ t * down e
steps p t m (negsuc k) a b = le_trans (mul-le-mul (below m (2 ^ p) a) (mul-pos (pow_pos t) (pow_pos (suc k)))) (le_of_eq (sym (mul_assoc (2 ^ p - 1) (2 ^ t) (2 ^ suc k))))
steps p t m (pos k) a b = rw mul-one (go (leb k t) (leb→le k t) (nleb→lt k t))
  where
    go : (x : Bool) → (T x → k ≤ t) → (T (not x) → t < k) → m * 2 ^ k ≤ (2 ^ p - 1) * 2 ^ t
    go true l g = mul-le-mul (below m (2 ^ p) a) (pow_mono (l tt))
    go false l g =
        let e = split m k t (le_of_lt (g tt)) in
        rw (← e) (mul-le-mul_right (2 ^ t) (below (m * 2 ^ (k - t)) (2 ^ p) (lt_of_mul-lt-mul_right (2 ^ t) (rw (e, ← pow-add) (rw mul-one at b)))))

abbrev largest : Format → ℕ
largest f = (2 ^ prec f - 1) * 2 ^ (suc (emax f) - prec f)

fits_size : (f : Format) (s : Bool) (m : ℕ) (e : ℤ) → T (fits f (fin s m e)) → m * up e ≤ largest f * down e
unfolding fits
fits_size f s zero e h = le_trans (le_of_eq (zero-mul (up e))) zero-le
fits_size f s (suc m) e h =
    let A = eqb (suc m % 2) 1 in
    let B = ltb (suc m) (2 ^ prec f) in
    let D = leb (down e) (2 ^ low f) in
    let E = ltb (suc m * up e) (2 ^ suc (emax f) * down e) in
    steps (prec f) (suc (emax f) - prec f) (suc m) e (ltb→lt (suc m) (2 ^ prec f) (and_r A B (and_l (A && B) D (and_l (A && B && D) E h))))
    (subst (λ (x : ℕ). suc m * up e < 2 ^ x * down e) (sym (add-sub_of_le (reach f))) (ltb→lt (suc m * up e) (2 ^ suc (emax f) * down e) (and_r (A && B && D) E h)))

-- ---- sums that are not rounded past the largest value, whatever the signs
finite_units : (f : Format) (s : Bool) (q k : ℕ) (y : Float) → T (le (units f false q k) y) → T (finite y) → T (finite (units f s q k))
unfolding units le
finite_units f s q k y = go (ltb (q * 2 ^ k) (overflow f)) y
  where
    go : (b : Bool) (y : Float) → T (le (cond b (odd (suc (prec f)) false q k (low f)) (inf false)) y) → T (finite y) → T (finite (cond b (odd (suc (prec f)) s q k (low f)) (inf s)))
    go true y h t = finite_of_value (odd (suc (prec f)) s q k (low f)) s (q * 2 ^ k) (2 ^ low f) (odd_sign (suc (prec f)) s q k (low f))
    go false nan h t = absurd t
    go false (inf u) h t = absurd t
    go false (fin u m e) h t = absurd h

finite_below : (f : Format) (s : Bool) (a c b : ℕ) → 0 < c → a ≤ b * c → T (finite (round f false b 1)) → T (finite (round f s a c))
finite_below f s a c b C h t =
    rw (round_is f s a c) (finite_units f s (kept (prec f) (a * 2 ^ low f) c) (drop (prec f) (a * 2 ^ low f) c) (round f false b 1)
    (rw (round_is f false a c) at (round_mono f a c b 1 C (zero-lt-suc 0) (le_trans (le_of_eq (mul-one a)) h))) t)

cond_finite : (b : Bool) (x y : Float) → T (finite x) → T (finite y) → T (finite (cond b x y))
cond_finite true x y h k = h
cond_finite false x y h k = k

sum_finite : (f : Format) (s : Bool) (a : ℕ) (t : Bool) (b c : ℕ) → ((r : Bool) (x : ℕ) → x ≤ a + b → T (finite (round f r x c))) → T (finite (sum f s a t b c))
unfolding sum
sum_finite f s a t b c h =
    cond_finite (beq s t) (round f s (a + b) c) (cond (ltb a b) (round f t (b - a) c) (round f (s && ltb b a) (a - b) c)) (h s (a + b) (omega arith))
    (cond_finite (ltb a b) (round f t (b - a) c) (round f (s && ltb b a) (a - b) c) (h t (b - a) (omega arith)) (h (s && ltb b a) (a - b) (omega arith)))

add_finite : (f : Format) (n : ℕ) (x y : Float) → T (fits f x) → T (finite x) → AtMost n y → T (finite (round f false (largest f + n) 1)) → T (finite (add f x y))
unfolding add
add_finite f n nan y h t u M = absurd t
add_finite f n (inf s) y h t u M = absurd t
add_finite f n (fin s m e) y h t (upto {m = b} {e = g} k) M =
    sum_finite f s (m * up e * down g) false (b * up g * down e) (down e * down g)
    (λ r x l. finite_below f r x (down e * down g) (largest f + n) (mul-pos (down_pos e) (down_pos g)) (le_trans l (cross (m * up e) (b * up g) (largest f) n (down e) (down g) (fits_size f s m e h) k)) M)

-- ---- the norm
of_size : (m : ℕ) (e : ℤ) → m * up e ≤ largest binary32 * down e → AtMost (2 ^ 256) (round binary64 false (m * up e * (m * up e)) (down e * down e))
of_size m e h =
    round_at_most binary64 (m * up e * (m * up e)) (down e * down e) 1 256 (mul-pos (down_pos e) (down_pos e)) (lit< tt) (lit< tt)
    (le_trans (mul-le-mul h h) (le_trans (le_of_eq (mul-mul-mul_comm (largest binary32) (down e) (largest binary32) (down e))) (mul-le-mul_right (down e * down e) (lit≤ tt))))

pub square : (x : Float) → finite x ≡ true → T (fits binary32 x) → AtMost (2 ^ 256) (x ⊗ x)
unfolding mul
square nan h t = absurd (true≢false (sym h))
square (inf s) h t = absurd (true≢false (sym h))
square (fin true m e) h t = of_size m e (fits_size binary32 true m e t)
square (fin false m e) h t = of_size m e (fits_size binary32 false m e t)

pub norm_finite : (v : ℕ → Float) (n : ℕ) → n ≤ 384 → ((i : ℕ) → i < n → finite (v i) ≡ true) → ((i : ℕ) → i < n → T (fits binary32 (v i))) → finite (root64 (sum_of binary64 (λ i. v i ⊗ v i) n)) ≡ true
norm_finite v n h p q =
    let l : n * 2 ^ 256 ≤ 2 ^ 133 * 2 ^ 133 = le_trans (mul-le-mul_right (2 ^ 256) h) (lit≤ tt) in
    is_true (finite (root64 (sum_of binary64 (λ i. v i ⊗ v i) n)))
    (rooted_finite binary64 (n * 2 ^ 256) (2 ^ 133) (sum_of binary64 (λ i. v i ⊗ v i) n) l (lit< tt)
    (sum_at_most binary64 (λ i. v i ⊗ v i) n 256 (lt_of_le_of_lt h (lit< tt)) (lt_of_le_of_lt l (lit< tt)) (λ i t. square (v i) (p i t) (q i t))))

-- ---- the damped diagonal
damping : (d : Float) → lt (num 0) d ≡ true → lt (ratio32 10000000000 1) d ≡ false → AtMost 10000000000 d
unfolding lt ratio ratio32
damping nan p b = absurd (true≢false (sym p))
damping (inf true) p b = absurd (true≢false (sym p))
damping (inf false) p b = absurd (true≢false b)
damping (fin true n g) p b = absurd (true≢false (sym p))
damping (fin false n g) p b = upto (le_trans (le_of_eq (sym (mul-one (n * up g)))) (ltb-false (10000000000 * down g) (n * up g * 1) b))

pub damped_finite : (x d : Float) → T (fits binary32 x) → finite x ≡ true → lt (num 0) d ≡ true → lt (ratio32 10000000000 1) d ≡ false → finite (x ⊞ d) ≡ true
damped_finite x d h t p b = is_true (finite (x ⊞ d)) (add_finite binary32 10000000000 x d h (subst T (sym t) tt) (damping d p b) (unfold round in tt))
