-- What a zero does in a sum, a product and a quotient of f32: v less ±0 is v, unless v is -0; +0 times a finite number is ±0; +0 by a number above 0 is +0;
-- and what is not finite stays so. Nothing here speaks of a matrix. Assumes nothing.
use mathlib.Core.Path.{◌≡◌, refl, sym, ap, ◌∙◌}
use mathlib.Core.Bool.{Bool, true, false, not, and-true, true≢false}
use Prim.Native.Nat.{ℕ, zero, suc, ◌*◌, ◌^◌, ◌<◌}
use native.Mathlib.Nat.{add-zero, sub-zero, mul-one, zero-mul, mul-zero, mul-pos, zero-lt-suc, one-mul, pow-succ'}
use native.Mathlib.Omega.{arith}
use borrow.Author.Tests.{le-ltb, lt-ltb, eqb-true, eqb-false, not-false}
use lib.IntN.{ℤ, pos, negsuc}
use lib.Dec.{T, eqb, eqb→eq, eqb-suc-zero}
use lib.Pow.{pow_pos}
use lib.Ieee.{Float, nan, inf, fin, binary32, up, down, unlike, round, sum, add, sub, mul, div, neg, eq, fits, is_nan, of_bits}
use lib.Ieee.Fits.{up_pos, down_pos}
use lib.Ieee.Scale.{finite, round_same}
use Rattle.std.specs.Float.{is_sign_negative}
use Rattle.numbers.specs.Notation.{◌⊟◌, ◌⊠◌, ◌⧄◌, num}
use Rattle.rounding.specs.Rounding.{rounded}
use Rattle.profile.specs.Starts.{plus_zero, minus_zero}
use Rattle.numbers.proofs.Tests.{and_first}
use Rattle.rounding.proofs.Own.{rounded_own}
use Rattle.roots.proofs.RootServes.{zero_is}

abbrev pub Fits : Float → Type 0
Fits x = T (fits binary32 x)

-- either zero
abbrev pub Zero : Float → Type 0
Zero x = (s : Bool) × (x ≡ fin s 0 (pos 0))

-- +0, as the code writes it
pub literal_zero : of_bits binary32 0 ≡ num 0
unfolding of_bits
literal_zero = sym zero_is

-- ---- less a zero

own : (s : Bool) (m : ℕ) (e : ℤ) → Fits (fin s m e) → round binary32 s (m * up e) (down e) ≡ fin s m e
unfolding rounded
own s m e h = rounded_own binary32 (fin s m e) h

sum_nothing : (t u : Bool) (a c : ℕ) → (t ≡ true → u ≡ false → 0 < a) → sum binary32 t a u 0 c ≡ round binary32 t a c
unfolding sum
sum_nothing true true a c h = rw add-zero
sum_nothing true false a c h = rw (le-ltb a 0 (omega arith), lt-ltb 0 a (h refl refl), sub-zero)
sum_nothing false true a c h = rw (le-ltb a 0 (omega arith), sub-zero)
sum_nothing false false a c h = rw add-zero

above : (m : ℕ) (e : ℤ) → eqb m 0 ≡ false → 0 < m * up e
above zero e h = absurd (eqb-false 0 0 h refl)
above (suc m) e h = mul-pos (zero-lt-suc m) (up_pos e)

pub less_zero : (v : Float) (s : Bool) → Fits v → (s ≡ true → minus_zero v ≡ false) → v ⊟ fin s 0 (pos 0) ≡ v
unfolding sub add neg minus_zero
less_zero nan s h k = refl
less_zero (inf t) s h k = refl
less_zero (fin t m e) s h k =
    rw (zero-mul (down e), mul-one (m * up e), mul-one (down e))
    (sum_nothing t (not s) (m * up e) (down e) (λ q r. above m e (rw q at (k (not-false s r)))) ∙ own t m e h)

pub zero_less : (v x : Float) → Fits v → minus_zero v ≡ false → Zero x → v ⊟ x ≡ v
zero_less v x h k z = ap (λ (y : Float). v ⊟ y) z.1 ∙ less_zero v z.0 h (λ _. k)

-- ---- products and quotients of +0

-- nothing, of whatever is above 0
pub nothing_of : (s : Bool) (a c : ℕ) → 0 < c → a ≡ 0 → round binary32 s a c ≡ fin s 0 (pos 0)
unfolding round
nothing_of s a c h e = round_same binary32 s a c 0 1 h (zero-lt-suc 0) (ap (λ (z : ℕ). z * 1) e ∙ sym (zero-mul c)) ∙ go s
  where
    go : (s : Bool) → round binary32 s 0 1 ≡ fin s 0 (pos 0)
    go true = refl
    go false = refl

pub plus_times : (y : Float) → finite y ≡ true → Zero (num 0 ⊠ y)
unfolding mul
plus_times y h = rw zero_is (go y h)
  where
    go : (y : Float) → finite y ≡ true → Zero (fin false 0 (pos 0) ⊠ y)
    go nan h = absurd (true≢false (sym h))
    go (inf t) h = absurd (true≢false (sym h))
    go (fin t n d) h = (unlike false t, nothing_of (unlike false t) (0 * (n * up d)) (1 * down d) (mul-pos (zero-lt-suc 0) (down_pos d)) (zero-mul (n * up d)))

pub times_plus : (y : Float) → finite y ≡ true → Zero (y ⊠ num 0)
unfolding mul
times_plus y h = rw zero_is (go y h)
  where
    go : (y : Float) → finite y ≡ true → Zero (y ⊠ fin false 0 (pos 0))
    go nan h = absurd (true≢false (sym h))
    go (inf t) h = absurd (true≢false (sym h))
    go (fin t n d) h = (unlike t false, nothing_of (unlike t false) (n * up d * 0) (down d * 1) (mul-pos (down_pos d) (zero-lt-suc 0)) (mul-zero (n * up d)))

-- v less +0 times +0 is v, for -0 too
pub less_square : (v : Float) → Fits v → v ⊟ num 0 ⊠ num 0 ≡ v
unfolding mul
less_square v h = rw zero_is (less_zero v false h (λ e. absurd (true≢false (sym e))))

-- ---- what is not finite

pub stuck_left : (v y : Float) → finite v ≡ false → finite (v ⊟ y) ≡ false
unfolding sub add neg
stuck_left nan y h = refl
stuck_left (inf s) nan h = refl
stuck_left (inf true) (inf true) h = refl
stuck_left (inf true) (inf false) h = refl
stuck_left (inf false) (inf true) h = refl
stuck_left (inf false) (inf false) h = refl
stuck_left (inf s) (fin t n d) h = refl
stuck_left (fin s m e) y h = absurd (true≢false h)

pub stuck_right : (v y : Float) → finite y ≡ false → finite (v ⊟ y) ≡ false
unfolding sub add neg
stuck_right nan y h = refl
stuck_right (inf s) y h = stuck_left (inf s) y refl
stuck_right (fin s m e) nan h = refl
stuck_right (fin s m e) (inf t) h = refl
stuck_right (fin s m e) (fin t n d) h = absurd (true≢false h)

pub stuck_square : (x : Float) → finite x ≡ false → finite (x ⊠ x) ≡ false
unfolding mul
stuck_square nan h = refl
stuck_square (inf s) h = refl
stuck_square (fin s m e) h = absurd (true≢false h)

pub stuck_by : (v y : Float) → finite v ≡ false → finite (v ⧄ y) ≡ false
unfolding div
stuck_by nan y h = refl
stuck_by (inf s) nan h = refl
stuck_by (inf s) (inf t) h = refl
stuck_by (inf s) (fin t n d) h = refl
stuck_by (fin s m e) y h = absurd (true≢false h)

-- ---- what equals 0

two_up : (p : ℕ) → 0 < p → 2 * p ≡ 1 → ⊥
two_up p h e = omega arith

flat : (e : ℤ) → up e * down e ≡ 1 → e ≡ pos 0
flat (pos zero) h = refl
flat (pos (suc k)) h = absurd (two_up (2 ^ k) (pow_pos k) (sym (pow-succ' 2 k) ∙ sym (mul-one (2 ^ suc k)) ∙ h))
flat (negsuc k) h = absurd (two_up (2 ^ k) (pow_pos k) (sym (pow-succ' 2 k) ∙ sym (one-mul (2 ^ suc k)) ∙ h))

-- a zero that fits has the exponent 0
zero_at : (s : Bool) (e : ℤ) → Fits (fin s zero e) → fin s zero e ≡ fin s 0 (pos 0)
unfolding fits
zero_at s e h = ap (fin s 0) (flat e (eqb→eq (up e * down e) 1 h))

pub equal_zero : (v : Float) → Fits v → eq v (num 0) ≡ true → Zero v
unfolding eq
equal_zero v f h = go v f (rw zero_is at h)
  where
    go : (v : Float) → Fits v → eq v (fin false 0 (pos 0)) ≡ true → Zero v
    go nan f h = absurd (true≢false (sym h))
    go (inf s) f h = absurd (true≢false (sym h))
    go (fin s zero e) f h = (s, zero_at s e f)
    go (fin s (suc m) e) f h =
        let z : suc m * up e * 1 ≡ 0 * down e = eqb-true (suc m * up e * 1) (0 * down e) (and_first (eqb (suc m * up e * 1) (0 * down e)) _ h) in
        let l : 0 < suc m * up e = mul-pos (zero-lt-suc m) (up_pos e) in
        absurd (omega (arith, mul-one (suc m * up e), zero-mul (down e)))

pub unequal_zero : (v : Float) → eq v (num 0) ≡ false → minus_zero v ≡ false
unfolding eq minus_zero
unequal_zero v h = go v (rw zero_is at h)
  where
    go : (v : Float) → eq v (fin false 0 (pos 0)) ≡ false → minus_zero v ≡ false
    go nan h = refl
    go (inf s) h = refl
    go (fin false m e) h = refl
    go (fin true (suc m) e) h = eqb-suc-zero m
    go (fin true zero e) h = absurd (true≢false (rw (zero-mul (up e), zero-mul (down e)) at h))

pub unequal_plus : (v : Float) → eq v (num 0) ≡ false → plus_zero v ≡ false
unfolding eq plus_zero
unequal_plus v h = go v (rw zero_is at h)
  where
    go : (v : Float) → eq v (fin false 0 (pos 0)) ≡ false → plus_zero v ≡ false
    go nan h = refl
    go (inf s) h = refl
    go (fin true m e) h = refl
    go (fin false (suc m) e) h = eqb-suc-zero m
    go (fin false zero e) h = absurd (true≢false (rw (zero-mul (up e), zero-mul (down e)) at h))

pub plus_zero_is : (v : Float) → Fits v → plus_zero v ≡ true → v ≡ num 0
unfolding plus_zero
plus_zero_is nan f h = absurd (true≢false (sym h))
plus_zero_is (inf s) f h = absurd (true≢false (sym h))
plus_zero_is (fin true m e) f h = absurd (true≢false (sym h))
plus_zero_is (fin false (suc m) e) f h = absurd (true≢false (sym h ∙ eqb-suc-zero m))
plus_zero_is (fin false zero e) f h = zero_at false e f ∙ sym zero_is

-- ---- the sign of a zero

pub minus_zero_sign : (v : Float) → Fits v → eq v (num 0) ≡ true → is_sign_negative v ≡ minus_zero v
unfolding minus_zero is_sign_negative
minus_zero_sign v f h = let z = equal_zero v f h in rw z.1 (sym (and-true z.0))

pub plus_zero_sign : (v : Float) → Fits v → eq v (num 0) ≡ true → not (is_sign_negative v) ≡ plus_zero v
unfolding plus_zero is_sign_negative
plus_zero_sign v f h = let z = equal_zero v f h in rw z.1 (sym (and-true (not z.0)))

pub equal_number : (v x : Float) → eq v x ≡ true → T (not (is_nan v))
unfolding eq is_nan
equal_number nan x h = absurd (true≢false (sym h))
equal_number (inf s) x h = tt
equal_number (fin s m e) x h = tt
