-- The order of the values that have no minus sign, zero and infinity included; and whatever the signs, `lt` goes on through a middle value, and what lies
-- below a value lies below or above any number between. Assumes nothing.
use Rattle.std.proofs.Common.{◌≡◌, ℕ, zero, suc, ◌+◌, ◌*◌, ◌^◌, ◌<◌, ◌≤◌, Bool, true, false, cond, not, ◌&&◌, ◌||◌, T, eqb, ltb, ◌⊎◌, sym, refl, subst, inl, inr, true≢false, zero-le, le_trans, le_of_eq, lt_of_lt_of_le, lt_of_le_of_lt, le_of_lt, mul-le-mul_right, zero-lt-suc, lt_of_mul-lt-mul_right, mul-lt-mul_of_pos_right, mul-pos, mul_right_comm, arith, eqb→eq, ltb→lt, lt→ltb, nltb→le, ltb-false}
use lib.Ieee.{Float, nan, inf, fin, Format, prec, emax, low, up, down, odd, units, round, lt, eq, le, is_nan}
use lib.Ieee.Fits.{down_pos, and_i, and_l, and_r, round_is}
use lib.Ieee.Order.{le_of_values}
use lib.Ieee.Positive.{num, den, through, first_pos}

-- finite, with no minus sign
abbrev pub plain : Float → Bool
plain nan = false
plain (inf s) = false
plain (fin s m e) = not s

-- a plain value or plus infinity
abbrev pub unsigned : Float → Bool
unsigned nan = false
unsigned (inf s) = not s
unsigned (fin s m e) = not s

or_split : (a b : Bool) → T (a || b) → T a ⊎ T b
or_split true b t = inl tt
or_split false b t = inr t

pub lt_or_eq : (a b : ℕ) → T (ltb a b || (eqb a b && true)) → a ≤ b
lt_or_eq a b t = elim (or_split (ltb a b) (eqb a b && true) t) [ inl u ↦ le_of_lt (ltb→lt a b u) | inr u ↦ le_of_eq (eqb→eq a b (and_l (eqb a b) true u)) ]

-- ---- plain values by their fractions
pub le→frac : (x y : Float) → T (plain x) → T (plain y) → T (le x y) → num x * den y ≤ num y * den x
unfolding le
le→frac nan y p q h = absurd p
le→frac (inf s) y p q h = absurd p
le→frac (fin true m e) y p q h = absurd p
le→frac (fin false m e) nan p q h = absurd q
le→frac (fin false m e) (inf t) p q h = absurd q
le→frac (fin false m e) (fin true n d) p q h = absurd q
le→frac (fin false m e) (fin false n d) p q h = lt_or_eq (m * up e * down d) (n * up d * down e) h

pub frac→le : (x y : Float) → T (plain x) → T (plain y) → num x * den y ≤ num y * den x → T (le x y)
frac→le nan y p q h = absurd p
frac→le (inf s) y p q h = absurd p
frac→le (fin true m e) y p q h = absurd p
frac→le (fin false m e) nan p q h = absurd q
frac→le (fin false m e) (inf t) p q h = absurd q
frac→le (fin false m e) (fin true n d) p q h = absurd q
frac→le (fin false m e) (fin false n d) p q h =
    le_of_values (fin false m e) (fin false n d) (m * up e) (down e) (n * up d) (down d) (down_pos e) (down_pos d) (refl, refl) (refl, refl) h

-- ---- unsigned values
pub le_through : (x y z : Float) → T (unsigned x) → T (unsigned y) → T (unsigned z) → T (le x y) → T (le y z) → T (le x z)
unfolding le
le_through nan y z p q r h k = absurd p
le_through (inf true) y z p q r h k = absurd p
le_through (inf false) nan z p q r h k = absurd q
le_through (inf false) (inf true) z p q r h k = absurd q
le_through (inf false) (inf false) z p q r h k = k
le_through (inf false) (fin s n d) z p q r h k = absurd h
le_through (fin true m e) y z p q r h k = absurd p
le_through (fin false m e) nan z p q r h k = absurd q
le_through (fin false m e) (inf true) z p q r h k = absurd q
le_through (fin false m e) (inf false) nan p q r h k = absurd r
le_through (fin false m e) (inf false) (inf true) p q r h k = absurd r
le_through (fin false m e) (inf false) (inf false) p q r h k = tt
le_through (fin false m e) (inf false) (fin s o g) p q r h k = absurd k
le_through (fin false m e) (fin true n d) z p q r h k = absurd q
le_through (fin false m e) (fin false n d) nan p q r h k = absurd r
le_through (fin false m e) (fin false n d) (inf true) p q r h k = absurd r
le_through (fin false m e) (fin false n d) (inf false) p q r h k = tt
le_through (fin false m e) (fin false n d) (fin true o g) p q r h k = absurd r
le_through (fin false m e) (fin false n d) (fin false o g) p q r h k =
    frac→le (fin false m e) (fin false o g) tt tt
    (through (m * up e) (n * up d) (o * up g) (down e) (down d) (down g) (down_pos d) (lt_or_eq (m * up e * down d) (n * up d * down e) h) (lt_or_eq (n * up d * down g) (o * up g * down d) k))

-- of two unsigned values one is at or below the other
pub le_of_not_lt : (x y : Float) → T (unsigned x) → T (unsigned y) → lt y x ≡ false → T (le x y)
unfolding le lt
le_of_not_lt nan y p q h = absurd p
le_of_not_lt (inf true) y p q h = absurd p
le_of_not_lt (inf false) nan p q h = absurd q
le_of_not_lt (inf false) (inf true) p q h = absurd q
le_of_not_lt (inf false) (inf false) p q h = tt
le_of_not_lt (inf false) (fin s n d) p q h = absurd (subst T h tt)
le_of_not_lt (fin true m e) y p q h = absurd p
le_of_not_lt (fin false m e) nan p q h = absurd q
le_of_not_lt (fin false m e) (inf true) p q h = absurd q
le_of_not_lt (fin false m e) (inf false) p q h = tt
le_of_not_lt (fin false m e) (fin true n d) p q h = absurd q
le_of_not_lt (fin false m e) (fin false n d) p q h =
    frac→le (fin false m e) (fin false n d) tt tt (nltb→le (n * up d * down e) (m * up e * down d) (subst (λ (b : Bool). T (not b)) (sym h) tt))

pub le_of_lt' : (x y : Float) → T (lt x y) → T (le x y)
unfolding le
le_of_lt' x y h = go (lt x y) h
  where
    go : (b : Bool) → T b → T (b || eq x y)
    go true t = tt
    go false t = absurd t

-- what is at or below a plain value is plain
pub plain_below : (x y : Float) → T (unsigned x) → T (plain y) → T (le x y) → T (plain x)
unfolding le
plain_below nan y p q h = absurd p
plain_below (inf true) y p q h = absurd p
plain_below (inf false) nan p q h = absurd q
plain_below (inf false) (inf t) p q h = absurd q
plain_below (inf false) (fin s n d) p q h = absurd h
plain_below (fin s m e) y p q h = p

pub plain_unsigned : (x : Float) → T (plain x) → T (unsigned x)
plain_unsigned nan p = absurd p
plain_unsigned (inf s) p = absurd p
plain_unsigned (fin s m e) p = p

-- ---- a rounded fraction is unsigned
odd_unsigned : (d q k l : ℕ) → T (unsigned (odd d false q k l))
unfolding odd
odd_unsigned d zero k l = tt
odd_unsigned d (suc q) k l = tt

units_unsigned : (f : Format) (q k : ℕ) → T (unsigned (units f false q k))
unfolding units
units_unsigned f q k = go (ltb (q * 2 ^ k) (2 ^ (low f + suc (emax f))))
  where
    go : (b : Bool) → T (unsigned (cond b (odd (suc (prec f)) false q k (low f)) (inf false)))
    go true = odd_unsigned (suc (prec f)) q k (low f)
    go false = tt

pub round_unsigned : (f : Format) (a b : ℕ) → T (unsigned (round f false a b))
round_unsigned f a b = subst (λ (z : Float). T (unsigned z)) (sym (round_is f false a b)) (units_unsigned f _ _)

-- ---- strict order: x / p < y / q < z / r
strictly : (x y z p q r : ℕ) → 0 < p → x * q < y * p → y * r < z * q → x * r < z * p
strictly x y z p q r P h k =
    lt_of_mul-lt-mul_right q
    (lt_of_le_of_lt (le_of_eq (mul_right_comm x r q))
    (lt_of_le_of_lt (mul-le-mul_right r (le_of_lt h))
    (lt_of_le_of_lt (le_of_eq (mul_right_comm y p r))
    (lt_of_lt_of_le (mul-lt-mul_of_pos_right k P) (le_of_eq (mul_right_comm z q p))))))

-- a product above zero
pos_left : (x q b : ℕ) → b < x * q → 0 < x
pos_left x q b h = first_pos x q (lt_of_le_of_lt zero-le h)

left_pos : (a b : ℕ) → 0 < a → 0 < a + b
left_pos a b h = omega arith

right_pos : (a b : ℕ) → 0 < b → 0 < a + b
right_pos a b h = omega arith

-- lt goes on through a middle value
pub lt_through : (x y z : Float) → T (lt x y) → T (lt y z) → T (lt x z)
unfolding lt
lt_through nan y z h k = absurd h
lt_through (inf s) nan z h k = absurd h
lt_through (inf s) (inf t) nan h k = absurd k
lt_through (inf s) (inf t) (inf u) h k = and_i s (not u) (and_l s (not t) h) (and_r t (not u) k)
lt_through (inf s) (inf t) (fin u o g) h k = and_l s (not t) h
lt_through (inf s) (fin t n d) nan h k = absurd k
lt_through (inf s) (fin t n d) (inf u) h k = and_i s (not u) h k
lt_through (inf s) (fin t n d) (fin u o g) h k = h
lt_through (fin s m e) nan z h k = absurd h
lt_through (fin s m e) (inf true) z h k = absurd h
lt_through (fin s m e) (inf false) nan h k = absurd k
lt_through (fin s m e) (inf false) (inf u) h k = absurd k
lt_through (fin s m e) (inf false) (fin u o g) h k = absurd k
lt_through (fin s m e) (fin t n d) nan h k = absurd k
lt_through (fin s m e) (fin t n d) (inf u) h k = k
lt_through (fin false m e) (fin true n d) (fin u o g) h k = absurd h
lt_through (fin false m e) (fin false n d) (fin true o g) h k = absurd k
lt_through (fin false m e) (fin false n d) (fin false o g) h k =
    lt→ltb (m * up e * down g) (o * up g * down e)
    (strictly (m * up e) (n * up d) (o * up g) (down e) (down d) (down g) (down_pos e) (ltb→lt (m * up e * down d) (n * up d * down e) h) (ltb→lt (n * up d * down g) (o * up g * down d) k))
lt_through (fin true m e) (fin false n d) (fin true o g) h k = absurd k
lt_through (fin true m e) (fin false n d) (fin false o g) h k =
    lt→ltb 0 (m * up e * down g + o * up g * down e)
    (right_pos (m * up e * down g) (o * up g * down e) (mul-pos (pos_left (o * up g) (down d) (n * up d * down g) (ltb→lt (n * up d * down g) (o * up g * down d) k)) (down_pos e)))
lt_through (fin true m e) (fin true n d) (fin false o g) h k =
    lt→ltb 0 (m * up e * down g + o * up g * down e)
    (left_pos (m * up e * down g) (o * up g * down e) (mul-pos (pos_left (m * up e) (down d) (n * up d * down e) (ltb→lt (n * up d * down e) (m * up e * down d) h)) (down_pos g)))
lt_through (fin true m e) (fin true n d) (fin true o g) h k =
    lt→ltb (o * up g * down e) (m * up e * down g)
    (strictly (o * up g) (n * up d) (m * up e) (down g) (down d) (down e) (down_pos g) (ltb→lt (o * up g * down d) (n * up d * down g) k) (ltb→lt (n * up d * down e) (m * up e * down d) h))

-- ---- of a value below z and a number y: the value is below y, or y is below z

-- y / q ≤ x / p < z / r
at_or_below : (x y z p q r : ℕ) → 0 < q → y * p ≤ x * q → x * r < z * p → y * r < z * q
at_or_below x y z p q r Q h k =
    lt_of_mul-lt-mul_right p
    (lt_of_le_of_lt (le_of_eq (mul_right_comm y r p))
    (lt_of_le_of_lt (mul-le-mul_right r h)
    (lt_of_le_of_lt (le_of_eq (mul_right_comm x q r))
    (lt_of_lt_of_le (mul-lt-mul_of_pos_right k Q) (le_of_eq (mul_right_comm z p q))))))

-- z / r < x / p ≤ y / q
at_or_above : (x y z p q r : ℕ) → 0 < q → x * q ≤ y * p → z * p < x * r → z * q < y * r
at_or_above x y z p q r Q h k =
    lt_of_mul-lt-mul_right p
    (lt_of_le_of_lt (le_of_eq (mul_right_comm z q p))
    (lt_of_lt_of_le (mul-lt-mul_of_pos_right k Q)
    (le_trans (le_of_eq (mul_right_comm x r q)) (le_trans (mul-le-mul_right r h) (le_of_eq (mul_right_comm y p r))))))

-- - x / p is not below y / q, so both are zero
both_zero : (x y z p q r : ℕ) → 0 < p → 0 < q → x * q + y * p ≤ 0 → 0 < x * r + z * p → y * r < z * q
both_zero zero zero z p q r P Q a h = let k : 0 < z * p = omega arith in let l : 0 < z * q = mul-pos (first_pos z p k) Q in omega arith
both_zero zero (suc y) z p q r P Q a h = let k : 0 < suc y * p = mul-pos (zero-lt-suc y) P in absurd (omega arith)
both_zero (suc x) y z p q r P Q a h = let k : 0 < suc x * q = mul-pos (zero-lt-suc x) Q in absurd (omega arith)

not_both : (x y p q : ℕ) → 0 < q → x * q + y * p ≤ 0 → 0 < x → ⊥
not_both x y p q Q a h = let k : 0 < x * q = mul-pos h Q in omega arith

-- - y / q is at or below - x / p, and that below z / r
one_not_zero : (x y z p q r : ℕ) → 0 < q → 0 < r → x * q ≤ y * p → 0 < x * r + z * p → 0 < y * r + z * q
one_not_zero x y (suc z) p q r Q R a h = right_pos (y * r) (suc z * q) (mul-pos (zero-lt-suc z) Q)
one_not_zero x y zero p q r Q R a h =
    let k : 0 < x * r = omega arith in
    left_pos (y * r) (0 * q) (mul-pos (first_pos y p (lt_of_lt_of_le (mul-pos (first_pos x r k) Q) a)) R)

pub lt_either : (x y z : Float) → T (not (is_nan y)) → T (lt x z) → lt x y ≡ false → T (lt y z)
unfolding lt is_nan
lt_either x nan z n h e = absurd n
lt_either nan (inf t) z n h e = absurd h
lt_either nan (fin t k d) z n h e = absurd h
lt_either (inf s) (inf t) nan n h e = absurd h
lt_either (inf false) (inf t) (inf u) n h e = absurd h
lt_either (inf false) (inf t) (fin u o g) n h e = absurd h
lt_either (inf true) (inf true) (inf u) n h e = h
lt_either (inf true) (inf true) (fin u o g) n h e = tt
lt_either (inf true) (inf false) (inf u) n h e = absurd (true≢false e)
lt_either (inf true) (inf false) (fin u o g) n h e = absurd (true≢false e)
lt_either (inf s) (fin t k d) nan n h e = absurd h
lt_either (inf true) (fin t k d) (inf u) n h e = absurd (true≢false e)
lt_either (inf true) (fin t k d) (fin u o g) n h e = absurd (true≢false e)
lt_either (inf false) (fin t k d) (inf u) n h e = absurd h
lt_either (inf false) (fin t k d) (fin u o g) n h e = absurd h
lt_either (fin s m i) (inf t) nan n h e = absurd h
lt_either (fin s m i) (inf true) (inf u) n h e = h
lt_either (fin s m i) (inf true) (fin u o g) n h e = tt
lt_either (fin s m i) (inf false) (inf u) n h e = absurd (true≢false e)
lt_either (fin s m i) (inf false) (fin u o g) n h e = absurd (true≢false e)
lt_either (fin s m i) (fin t k d) nan n h e = absurd h
lt_either (fin s m i) (fin t k d) (inf u) n h e = h
lt_either (fin false m i) (fin false k d) (fin false o g) n h e =
    lt→ltb (k * up d * down g) (o * up g * down d)
    (at_or_below (m * up i) (k * up d) (o * up g) (down i) (down d) (down g) (down_pos d)
    (ltb-false (m * up i * down d) (k * up d * down i) e) (ltb→lt (m * up i * down g) (o * up g * down i) h))
lt_either (fin false m i) (fin t k d) (fin true o g) n h e = absurd h
lt_either (fin false m i) (fin true k d) (fin false o g) n h e =
    lt→ltb 0 (k * up d * down g + o * up g * down d)
    (right_pos (k * up d * down g) (o * up g * down d)
    (mul-pos (pos_left (o * up g) (down i) (m * up i * down g) (ltb→lt (m * up i * down g) (o * up g * down i) h)) (down_pos d)))
lt_either (fin true m i) (fin false k d) (fin false o g) n h e =
    lt→ltb (k * up d * down g) (o * up g * down d)
    (both_zero (m * up i) (k * up d) (o * up g) (down i) (down d) (down g) (down_pos i) (down_pos d)
    (ltb-false 0 (m * up i * down d + k * up d * down i) e) (ltb→lt 0 (m * up i * down g + o * up g * down i) h))
lt_either (fin true m i) (fin false k d) (fin true o g) n h e =
    absurd
    (not_both (m * up i) (k * up d) (down i) (down d) (down_pos d) (ltb-false 0 (m * up i * down d + k * up d * down i) e)
    (pos_left (m * up i) (down g) (o * up g * down i) (ltb→lt (o * up g * down i) (m * up i * down g) h)))
lt_either (fin true m i) (fin true k d) (fin false o g) n h e =
    lt→ltb 0 (k * up d * down g + o * up g * down d)
    (one_not_zero (m * up i) (k * up d) (o * up g) (down i) (down d) (down g) (down_pos d) (down_pos g)
    (ltb-false (k * up d * down i) (m * up i * down d) e) (ltb→lt 0 (m * up i * down g + o * up g * down i) h))
lt_either (fin true m i) (fin true k d) (fin true o g) n h e =
    lt→ltb (o * up g * down d) (k * up d * down g)
    (at_or_above (m * up i) (k * up d) (o * up g) (down i) (down d) (down g) (down_pos d)
    (ltb-false (k * up d * down i) (m * up i * down d) e) (ltb→lt (o * up g * down i) (m * up i * down g) h))
