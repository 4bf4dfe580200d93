-- Sums of f32 from −0 and from +0. The two are equal, or are −0 and +0; and added to a sum that started at +0, which is never −0, they make no difference.
-- Assumes nothing.
use mathlib.Core.Path.{◌≡◌, refl, sym, ap, ◌∙◌}
use mathlib.Core.Bool.{Bool, true, false, ◌&&◌, cond, and-false, true≢false}
use mathlib.Core.Logic.{◌⊎◌, inl, inr}
use Prim.Native.Nat.{ℕ, zero, suc, ◌+◌, ◌-◌, ◌*◌, ◌/◌, ◌%◌, ◌^◌, ◌<◌, ◌≤◌, compare}
use native.Mathlib.Nat.{le_trans, zero-add, sub-zero, zero-mul, suc-mul, add-mul, mul-one, mul-pos, mul_assoc, mul_comm, mul_left_comm}
use native.Mathlib.Nat.{mul-le-mul_right, lt_of_not-le, le-div_iff_mul-le, div-div-eq-div-mul, zero-lt-suc}
use native.Mathlib.Omega.{arith}
use lib.IntN.{ℤ, pos, negsuc}
use lib.Dec.{T, eqb, ltb, leb, leb→le, eqb→eq, eqb-suc-zero}
use lib.Pow.{pow_pos, pow-add, pow-lt}
use lib.Ieee.{Float, nan, inf, fin, Format, binary32, prec, emax, low, up, down, size, odd, units, round, neg, sum, add, sub, fits}
use lib.Ieee.Digits.{size-lt, size_reaches}
use lib.Ieee.Exact.{HasValue, odd_sign}
use lib.Ieee.Fits.{up_pos, down_pos, and_l, and_r, two, round_is, add-fits}
use lib.Ieee.Nearest.{closest, nearest-ge}
use borrow.Author.Tests.{ltb-true, ltb-false, le-ltb}
use Rattle.numbers.specs.Notation.{◌⊞◌, num, if_then}
use Rattle.roots.proofs.RootServes.{zero_is}
use Rattle.profile.specs.Starts.{minus_zero}
use Rattle.profile.proofs.Zeros.{Fits, nothing_of, less_zero}
use Rattle.assembly.specs.Sums.{sum_from, sum_over}

-- ---- a sum from −0 beside one from +0

abbrev minus : Float
minus = fin true 0 (pos 0)

abbrev plus : Float
plus = fin false 0 (pos 0)

minus_is : neg (num 0) ≡ minus
unfolding neg
minus_is = rw zero_is

-- equal, or −0 and +0
abbrev Near : Float → Float → Type 0
Near x y = (x ≡ y) ⊎ ((x ≡ minus) × (y ≡ plus))

near_sum : (t : Bool) (b c : ℕ) → 0 < c → Near (sum binary32 true 0 t b c) (sum binary32 false 0 t b c)
unfolding sum
near_sum true b c h = go (ltb 0 b) (ltb-false 0 b)
  where
    go : (u : Bool) → (u ≡ false → b ≤ 0)
        → Near (round binary32 true (0 + b) c) (cond u (round binary32 true (b - 0) c) (round binary32 (false && ltb b 0) (0 - b) c))
    go true g = inl (ap (λ z. round binary32 true z c) (zero-add b ∙ sym (sub-zero b)))
    go false g = let o = g refl in inr (nothing_of true (0 + b) c h (omega arith), nothing_of false (0 - b) c h (omega arith))
near_sum false b c h = go (ltb 0 b) (ltb-false 0 b)
  where
    go : (u : Bool) → (u ≡ false → b ≤ 0)
        → Near (cond u (round binary32 false (b - 0) c) (round binary32 (true && ltb b 0) (0 - b) c)) (round binary32 false (0 + b) c)
    go true g = inl (ap (λ z. round binary32 false z c) (sub-zero b ∙ sym (zero-add b)))
    go false g =
        let o = g refl in
        let e : 0 - b ≡ 0 + b = omega arith in
        inl (ap (λ u. round binary32 u (0 - b) c) (le-ltb b 0 (omega arith)) ∙ ap (λ z. round binary32 false z c) e)

near_add : (x y z : Float) → Near x y → Near (x ⊞ z) (y ⊞ z)
unfolding add
near_add x y z (inl e) = inl (ap (λ v. v ⊞ z) e)
near_add x y z (inr e) = rw (e.0, e.1) (go z)
  where
    go : (z : Float) → Near (minus ⊞ z) (plus ⊞ z)
    go nan = inl refl
    go (inf t) = inl refl
    go (fin t n d) = rw (zero-mul (down d)) (near_sum t (n * up d * 1) (1 * down d) (mul-pos (zero-lt-suc 0) (down_pos d)))

near_from : (f : ℕ → Float) (n : ℕ) → Near (sum_from (neg (num 0)) f n) (sum_from (num 0) f n)
unfolding sum_from
near_from f zero = inr (minus_is, zero_is)
near_from f (suc n) = near_add _ _ (f n) (near_from f n)

-- either zero added to an f32 that is not −0 leaves it
near_onto : (x y z : Float) → Fits x → minus_zero x ≡ false → Near y z → x ⊞ y ≡ x ⊞ z
unfolding sub neg
near_onto x y z f h (inl e) = ap (λ v. x ⊞ v) e
near_onto x y z f h (inr e) = rw (e.0, e.1) (less_zero x false f (λ q. absurd (true≢false (sym q))) ∙ sym (less_zero x true f (λ _. h)))

-- ---- a sum of two f32 is −0 only where both are

some_digits : (z w : ℕ) → w < 2 ^ z → 0 < w → 0 < z
some_digits zero w h l = absurd (omega arith)
some_digits (suc z) w h l = zero-lt-suc z

-- a difference, counted in units of both
difference : (A B C L X Y : ℕ) → 0 < L → A * L ≡ X * C → B * L ≡ Y * C → B < A → C ≤ (A - B) * L
difference A B C L X Y l p q h =
    let e : A ≡ B + (A - B) = omega arith in
    let d : A * L ≡ B * L + (A - B) * L = ap (λ z. z * L) e ∙ add-mul B (A - B) L in
    let s : 0 < (A - B) * L = mul-pos (omega arith) l in
    let o : Y < X = lt_of_not-le (λ (o : X ≤ Y). omega (arith, mul-le-mul_right C o)) in
    omega (arith, mul-le-mul_right C o, suc-mul Y C)

-- a number above 0, counted in units
at_least : (A C L X : ℕ) → 0 < L → A * L ≡ X * C → 0 < A → C ≤ A * L
at_least A C L X l p h = rw sub-zero at (difference A 0 C L X 0 l p (zero-mul L ∙ sym (zero-mul C)) h)

-- M D / (E D) in units of which L make 1, and E of them divide it
in_units : (M D E L q : ℕ) → L ≡ q * E → M * D * L ≡ M * q * (E * D)
in_units M D E L q e = rw e (simp (mul_assoc, mul_comm, mul_left_comm))

-- what is negative and not −0
some_size : (s : Bool) (m : ℕ) (e d : ℤ) → (s && eqb m 0) ≡ false → s ≡ true → 0 < m * up e * down d
some_size true zero e d h g = absurd (true≢false h)
some_size true (suc m) e d h g = mul-pos (mul-pos (zero-lt-suc m) (up_pos e)) (down_pos d)
some_size false m e d h g = absurd (true≢false (sym g))

module _ (f : Format) where
  -- a fraction of the least number or more does not round to 0
  kept_some : (a c : ℕ) → 0 < c → c ≤ a * 2 ^ low f → 0 < closest (a * 2 ^ low f) (c * 2 ^ (size (a * 2 ^ low f / c) - prec f))
  kept_some a c h l =
      let n = a * 2 ^ low f in
      let k = size (n / c) - prec f in
      let w : 1 ≤ n / c = (le-div_iff_mul-le h).1 (omega arith) in
      let d : 0 < size (n / c) = some_digits (size (n / c)) (n / c) (size-lt (n / c)) w in
      let p : 2 ^ k ≤ n / c = size_reaches (n / c) k (let t = two f in omega arith) in
      let q : 1 ≤ n / c / 2 ^ k = (le-div_iff_mul-le (pow_pos k)).1 (omega arith) in
      le_trans (rw (div-div-eq-div-mul n c (2 ^ k)) at q) (nearest-ge (n / (c * 2 ^ k)) (compare (n % (c * 2 ^ k) * 2) (c * 2 ^ k)))

  value_some : (x : Float) (s : Bool) (a c : ℕ) → HasValue x s a c → 0 < a → minus_zero x ≡ false
  unfolding minus_zero
  value_some nan s a c v h = refl
  value_some (inf t) s a c v h = refl
  value_some (fin t zero e) s a c v h =
      let p : 0 < a * down e = mul-pos h (down_pos e) in
      let z : 0 * up e * c ≡ 0 = ap (λ z. z * c) (zero-mul (up e)) ∙ zero-mul c in
      absurd (omega (arith, v.1))
  value_some (fin t (suc m) e) s a c v h = rw (eqb-suc-zero m, and-false t)

  units_some : (s : Bool) (q k : ℕ) → 0 < q → minus_zero (units f s q k) ≡ false
  unfolding units minus_zero
  units_some s q k h = go (ltb (q * 2 ^ k) (2 ^ (low f + suc (emax f))))
    where
      go : (b : Bool) → minus_zero (cond b (odd (suc (prec f)) s q k (low f)) (inf s)) ≡ false
      go true = value_some (odd (suc (prec f)) s q k (low f)) s (q * 2 ^ k) (2 ^ low f) (odd_sign (suc (prec f)) s q k (low f)) (mul-pos h (pow_pos k))
      go false = refl

  round_some : (s : Bool) (a c : ℕ) → 0 < c → c ≤ a * 2 ^ low f → minus_zero (round f s a c) ≡ false
  round_some s a c h l = ap minus_zero (round_is f s a c) ∙ units_some s _ (size (a * 2 ^ low f / c) - prec f) (kept_some a c h l)

  -- what is not negative
  odd_plus : (d q k l : ℕ) → minus_zero (odd d false q k l) ≡ false
  unfolding odd minus_zero
  odd_plus d zero k l = refl
  odd_plus d (suc q) k l = refl

  units_plus : (q k : ℕ) → minus_zero (units f false q k) ≡ false
  unfolding units minus_zero
  units_plus q k = go (ltb (q * 2 ^ k) (2 ^ (low f + suc (emax f))))
    where
      go : (b : Bool) → minus_zero (cond b (odd (suc (prec f)) false q k (low f)) (inf false)) ≡ false
      go true = odd_plus (suc (prec f)) q k (low f)
      go false = refl

  round_plus : (a c : ℕ) → minus_zero (round f false a c) ≡ false
  round_plus a c = ap minus_zero (round_is f false a c) ∙ units_plus _ (size (a * 2 ^ low f / c) - prec f)

  -- every number of the format is a multiple of the least
  low_enough : (s : Bool) (m : ℕ) (e : ℤ) → T (fits f (fin s m e)) → down e ≤ 2 ^ low f
  unfolding fits
  low_enough s zero e h =
      let p : up e * down e ≡ 1 = eqb→eq (up e * down e) 1 h in
      let q : 1 ≤ 2 ^ low f = pow_pos (low f) in
      omega (arith, mul-le-mul_right (down e) (up_pos e))
  low_enough s (suc m) e h =
      let a : Bool = eqb (suc m % 2) 1 && ltb (suc m) (2 ^ prec f) in
      let b : Bool = leb (down e) (2 ^ low f) in
      leb→le (down e) (2 ^ low f) (and_r a b (and_l (a && b) (ltb (suc m * up e) (2 ^ suc (emax f) * down e)) h))

  multiple : (e : ℤ) → down e ≤ 2 ^ low f → (q : ℕ) × (2 ^ low f ≡ q * down e)
  multiple (pos k) h = (2 ^ low f, sym (mul-one (2 ^ low f)))
  multiple (negsuc k) h =
      let l : k < low f = lt_of_not-le (λ (q : low f ≤ k). let p : 2 ^ low f < 2 ^ suc k = pow-lt (omega arith) in omega arith) in
      let e : low f ≡ low f - suc k + suc k = omega arith in
      (2 ^ (low f - suc k), ap (λ z. 2 ^ z) e ∙ pow-add 2 (low f - suc k) (suc k))

  -- a sum of two numbers, by their sizes
  module _ (A B C : ℕ) (above : 0 < C) (more : B < A → C ≤ (A - B) * 2 ^ low f) (less : A < B → C ≤ (B - A) * 2 ^ low f)
      (any : 0 < A → C ≤ A * 2 ^ low f) where
    sum_some : (s t : Bool) → (s ≡ true → 0 < A) → minus_zero (sum f s A t B C) ≡ false
    unfolding sum
    sum_some false false h = round_plus (A + B) C
    sum_some true true h = round_some true (A + B) C above (let p = any (h refl) in omega (arith, add-mul A B (2 ^ low f)))
    sum_some true false h = go (ltb A B) (ltb B A) (ltb-true B A)
      where
        go : (u v : Bool) → (v ≡ true → B < A) → minus_zero (cond u (round f false (B - A) C) (round f (true && v) (A - B) C)) ≡ false
        go true v g = round_plus (B - A) C
        go false true g = round_some true (A - B) C above (more (g refl))
        go false false g = round_plus (A - B) C
    sum_some false true h = go (ltb A B) (ltb-true A B)
      where
        go : (u : Bool) → (u ≡ true → A < B) → minus_zero (cond u (round f true (B - A) C) (round f (false && ltb B A) (A - B) C)) ≡ false
        go true g = round_some true (B - A) C above (less (g refl))
        go false g = round_plus (A - B) C

  add_some : (x y : Float) → T (fits f x) → T (fits f y) → minus_zero x ≡ false → minus_zero (add f x y) ≡ false
  unfolding add minus_zero
  add_some nan y p q h = refl
  add_some (inf s) nan p q h = refl
  add_some (inf true) (inf true) p q h = refl
  add_some (inf true) (inf false) p q h = refl
  add_some (inf false) (inf true) p q h = refl
  add_some (inf false) (inf false) p q h = refl
  add_some (inf s) (fin t n d) p q h = refl
  add_some (fin s m e) nan p q h = refl
  add_some (fin s m e) (inf t) p q h = refl
  add_some (fin s m e) (fin t n d) p q h =
      let l : 0 < 2 ^ low f = pow_pos (low f) in
      let u = multiple e (low_enough s m e p) in
      let v = multiple d (low_enough t n d q) in
      let a = in_units (m * up e) (down d) (down e) (2 ^ low f) u.0 u.1 in
      let b = in_units (n * up d) (down e) (down d) (2 ^ low f) v.0 v.1 ∙ ap (λ z. n * up d * v.0 * z) (mul_comm (down d) (down e)) in
      sum_some (m * up e * down d) (n * up d * down e) (down e * down d) (mul-pos (down_pos e) (down_pos d))
      (difference _ _ _ _ _ _ l a b) (difference _ _ _ _ _ _ l b a) (at_least _ _ _ _ l a) s t (some_size s m e d h)

-- ---- so a sum that started at +0 is an f32, and never −0

over_some : (t : ℕ → Bool) (f : ℕ → Float) → ((k : ℕ) → Fits (f k)) → (k : ℕ) → Fits (sum_over t f k) × (minus_zero (sum_over t f k) ≡ false)
unfolding sum_over if_then fits minus_zero
over_some t f h zero = rw zero_is (tt, refl)
over_some t f h (suc k) = go (t k) (over_some t f h k)
  where
    go : (b : Bool) → Fits (sum_over t f k) × (minus_zero (sum_over t f k) ≡ false)
        → Fits (if_then b (sum_over t f k ⊞ f k) (sum_over t f k)) × (minus_zero (if_then b (sum_over t f k ⊞ f k) (sum_over t f k)) ≡ false)
    go true i = (add-fits binary32 (sum_over t f k) (f k), add_some binary32 (sum_over t f k) (f k) i.0 (h k) i.1)
    go false i = i

from_fits : (f : ℕ → Float) (n : ℕ) → Fits (sum_from (num 0) f n)
unfolding sum_from fits
from_fits f zero = rw zero_is tt
from_fits f (suc n) = add-fits binary32 (sum_from (num 0) f n) (f n)

-- whether the sums of n that are added start at −0 or at +0 makes no difference, however many are added
pub sums_alike : (t : ℕ → Bool) (f : ℕ → ℕ → Float) (n k : ℕ) → sum_over t (λ i. sum_from (neg (num 0)) (f i) n) k ≡ sum_over t (λ i. sum_from (num 0) (f i) n) k
unfolding sum_over if_then
sums_alike t f n zero = refl
sums_alike t f n (suc k) = go (t k) (sums_alike t f n k)
  where
    from : Float → ℕ → Float
    from z i = sum_from z (f i) n

    go : (b : Bool) → sum_over t (from (neg (num 0))) k ≡ sum_over t (from (num 0)) k
        → if_then b (sum_over t (from (neg (num 0))) k ⊞ from (neg (num 0)) k) (sum_over t (from (neg (num 0))) k)
        ≡ if_then b (sum_over t (from (num 0)) k ⊞ from (num 0) k) (sum_over t (from (num 0)) k)
    go true e =
        let s = over_some t (from (num 0)) (λ i. from_fits (f i) n) k in
        ap (λ x. x ⊞ from (neg (num 0)) k) e ∙ near_onto (sum_over t (from (num 0)) k) _ _ s.0 s.1 (near_from (f k) n)
    go false e = e
