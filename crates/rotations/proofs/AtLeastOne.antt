-- The p of the quaternion rule is at least 1 for finite entries (document 01, "Rotation arithmetic"), whatever rounding does, overflow to an infinity included.
-- In every branch it is 1 plus two numbers that are not below 0. Assumes nothing.
use mathlib.Core.Path.{◌≡◌, refl, sym, subst}
use mathlib.Core.Bool.{Bool, true, false, not, ◌&&◌, cond, beq, true≢false}
use Prim.Native.Nat.{ℕ, zero, suc, ◌+◌, ◌-◌, ◌*◌, ◌^◌, ◌≤◌, ◌<◌}
use native.Mathlib.Nat.{not-le_of_lt, zero-mul, sub-zero, mul-pos, mul-le-mul_right, mul-one, one-mul}
use native.Mathlib.Omega.{arith}
use lib.IntN.{ℤ, pos}
use lib.Dec.{T, ltb, eqb, leb-suc-zero, eqb→eq, lt→ltb}
use lib.Ieee.{Float, nan, inf, fin, Format, binary32, binary64, prec, emax, low, up, down, odd, units, round, sum, add, sub, neg, le, is_nan}
use lib.Ieee.Bits.{is_true}
use lib.Ieee.Fits.{up_pos, down_pos, round_is}
use lib.Ieee.Order.{round_mono}
use lib.Ieee.Positive.{le→cross, above_of_le}
use lib.Ieee.Scale.{finite}
use Rattle.numbers.specs.Notation.{ratio, num, if_then}
use Rattle.numbers.proofs.Order.{lt_or_eq}
use Rattle.rotations.specs.Formats.{Mat3F32}
use Rattle.rotations.specs.FromMatrix.{by_rule, p_of}

abbrev unit : Float
unit = fin false 1 (pos 0)

abbrev nought : Float
nought = fin false 0 (pos 0)

-- at or above 0, an infinity included
abbrev not_below : Float → Bool
not_below nan = false
not_below (inf s) = not s
not_below (fin false m e) = true
not_below (fin true m e) = eqb m 0

-- ---- x + y, for an x at least 1 and a y not below 0

unit_rounds : (f : Format) → round f false 1 1 ≡ unit
unfolding round
unit_rounds binary32 = refl
unit_rounds binary64 = refl

rounds_above : (f : Format) (a c : ℕ) → 0 < c → c ≤ a → T (le unit (round f false a c))
rounds_above f a c C h =
    subst (λ (z : Float). T (le z (round f false a c))) (unit_rounds f)
    (round_mono f 1 1 a c (omega arith) C (simp (mul-one, one-mul) h))

value_above : (m : ℕ) (e : ℤ) → T (le unit (fin false m e)) → down e ≤ m * up e
value_above m e h = simp (mul-one, one-mul) at (le→cross unit (fin false m e) tt (above_of_le unit (fin false m e) tt h) h)

less_nothing : (f : Format) (a b c : ℕ) → b ≡ 0 → 0 < c → c ≤ a → T (le unit (cond (ltb a b) (round f true (b - a) c) (round f false (a - b) c)))
less_nothing f a b c z C h = rw (z, leb-suc-zero a, sub-zero a) (rounds_above f a c C h)

add_more : (f : Format) (x y : Float) → T (le unit x) → T (not_below y) → T (le unit (add f x y))
unfolding le add sum
add_more f nan y p q = absurd p
add_more f (inf true) y p q = absurd p
add_more f (inf false) nan p q = absurd q
add_more f (inf false) (inf true) p q = absurd q
add_more f (inf false) (inf false) p q = tt
add_more f (inf false) (fin t n d) p q = tt
add_more f (fin true m e) y p q = absurd (above_of_le unit (fin true m e) tt p)
add_more f (fin false m e) nan p q = absurd q
add_more f (fin false m e) (inf true) p q = absurd q
add_more f (fin false m e) (inf false) p q = tt
add_more f (fin false m e) (fin false n d) p q =
    let h : down e * down d ≤ m * up e * down d = mul-le-mul_right (down d) (value_above m e p) in
    rounds_above f (m * up e * down d + n * up d * down e) (down e * down d) (mul-pos (down_pos e) (down_pos d)) (omega arith)
add_more f (fin false m e) (fin true n d) p q =
    let z : n ≡ 0 = eqb→eq n 0 q in
    less_nothing f (m * up e * down d) (n * up d * down e) (down e * down d) (rw (z, zero-mul, zero-mul))
    (mul-pos (down_pos e) (down_pos d)) (mul-le-mul_right (down d) (value_above m e p))

-- ---- the rule's tests, and what is not below 0 by them

none : (m : ℕ) (e : ℤ) → m * up e ≤ 0 → T (eqb m 0)
none zero e h = tt
none (suc m) e h = let k : 0 < suc m * up e = mul-pos (omega arith) (up_pos e) in absurd (not-le_of_lt k h)

neg_not_below : (x : Float) → le x nought ≡ true → T (not_below (neg x))
unfolding le neg
neg_not_below nan h = absurd (subst T (sym h) tt)
neg_not_below (inf true) h = tt
neg_not_below (inf false) h = absurd (subst T (sym h) tt)
neg_not_below (fin true m e) h = tt
neg_not_below (fin false m e) h =
    none m e (simp (mul-one, zero-mul) at (lt_or_eq (m * up e * 1) (0 * 1 * down e) (subst T (sym h) tt)))

self_not_below : (x : Float) → T (not (is_nan x)) → le x nought ≡ false → T (not_below x)
unfolding le is_nan
self_not_below nan p h = absurd p
self_not_below (inf true) p h = absurd (subst T h tt)
self_not_below (inf false) p h = tt
self_not_below (fin true zero e) p h = tt
self_not_below (fin true (suc m) e) p h =
    let k : 0 < suc m * up e = mul-pos (omega arith) (up_pos e) in
    let t : ltb 0 (suc m * up e * 1 + 0 * 1 * down e) ≡ true = is_true _ (lt→ltb 0 (suc m * up e * 1 + 0 * 1 * down e) (omega arith)) in
    absurd (true≢false (rw t at h))
self_not_below (fin false m e) p h = tt

-- ---- a sum of two finite numbers is no NaN

odd_number : (d : ℕ) (s : Bool) (q k l : ℕ) → T (not (is_nan (odd d s q k l)))
unfolding odd is_nan
odd_number d s zero k l = tt
odd_number d s (suc q) k l = tt

either_number : (b : Bool) (x y : Float) → T (not (is_nan x)) → T (not (is_nan y)) → T (not (is_nan (cond b x y)))
either_number true x y p q = p
either_number false x y p q = q

inf_number : (s : Bool) → T (not (is_nan (inf s)))
unfolding is_nan
inf_number s = tt

units_number : (f : Format) (s : Bool) (q k : ℕ) → T (not (is_nan (units f s q k)))
unfolding units
units_number f s q k =
    either_number (ltb (q * 2 ^ k) (2 ^ (low f + suc (emax f)))) (odd (suc (prec f)) s q k (low f)) (inf s)
    (odd_number (suc (prec f)) s q k (low f)) (inf_number s)

round_number : (f : Format) (s : Bool) (a c : ℕ) → T (not (is_nan (round f s a c)))
round_number f s a c = subst (λ (z : Float). T (not (is_nan z))) (sym (round_is f s a c)) (units_number f s _ _)

sum_number : (f : Format) (s : Bool) (a : ℕ) (t : Bool) (b c : ℕ) → T (not (is_nan (sum f s a t b c)))
unfolding sum
sum_number f s a t b c =
    either_number (beq s t) (round f s (a + b) c) (cond (ltb a b) (round f t (b - a) c) (round f (s && ltb b a) (a - b) c))
    (round_number f s (a + b) c)
    (either_number (ltb a b) (round f t (b - a) c) (round f (s && ltb b a) (a - b) c)
    (round_number f t (b - a) c) (round_number f (s && ltb b a) (a - b) c))

add_number : (f : Format) (x y : Float) → T (finite x) → T (finite y) → T (not (is_nan (add f x y)))
unfolding add
add_number f nan y p q = absurd p
add_number f (inf s) y p q = absurd p
add_number f (fin s m e) nan p q = absurd q
add_number f (fin s m e) (inf t) p q = absurd q
add_number f (fin s m e) (fin t n d) p q = sum_number f s _ t _ _

sub_number : (f : Format) (x y : Float) → T (finite x) → T (finite y) → T (not (is_nan (sub f x y)))
unfolding sub neg
sub_number f x nan p q = absurd q
sub_number f x (inf s) p q = absurd q
sub_number f x (fin t n d) p q = add_number f x (fin (not t) n d) p tt

finite_number : (x : Float) → T (finite x) → T (not (is_nan x))
unfolding is_nan
finite_number nan p = absurd p
finite_number (inf s) p = absurd p
finite_number (fin s m e) p = tt

-- ---- the rule

choice : {A : Type 0} (P : A → Type 0) (b : Bool) {x y : A} → (b ≡ true → P x) → (b ≡ false → P y) → P (if_then b x y)
unfolding if_then
choice P true p q = p refl
choice P false p q = q refl

-- k less or plus d, by the test on d
branch : (f : Format) (k d : Float) → T (le unit k) → T (not (is_nan d)) → T (le unit (if_then (le d nought) (sub f k d) (add f k d)))
unfolding sub
branch f k d p q =
    choice (λ (z : Float). T (le unit z)) (le d nought) (λ h. add_more f k (neg d) p (neg_not_below d h)) (λ h. add_more f k d p (self_not_below d q h))

one_is_one : T (le unit unit)
unfolding le
one_is_one = tt

pub at_least_one : (m : Mat3F32) → finite m.x.x ≡ true → finite m.y.y ≡ true → finite m.z.z ≡ true → le (num 1) (p_of m) ≡ true
unfolding p_of by_rule ratio sub
at_least_one m m₀₀-finite m₁₁-finite m₂₂-finite =
    let p : T (finite m.x.x) = subst T (sym m₀₀-finite) tt in
    let q : T (finite m.y.y) = subst T (sym m₁₁-finite) tt in
    let r : T (finite m.z.z) = subst T (sym m₂₂-finite) tt in
    let m₂₂ = m.z.z in
    is_true _
    (choice (λ (z : Float). T (le unit z)) (le m₂₂ nought)
    (λ h. branch binary32 (sub binary32 unit m₂₂) (sub binary32 m.y.y m.x.x)
    (add_more binary32 unit (neg m₂₂) one_is_one (neg_not_below m₂₂ h)) (sub_number binary32 m.y.y m.x.x q p))
    (λ h. branch binary32 (add binary32 unit m₂₂) (add binary32 m.y.y m.x.x)
    (add_more binary32 unit m₂₂ one_is_one (self_not_below m₂₂ (finite_number m₂₂ r) h)) (add_number binary32 m.y.y m.x.x q p)))
