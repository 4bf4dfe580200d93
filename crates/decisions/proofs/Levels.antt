-- The damping's levels. `rung k` is 2 ^ -149 raised k times. A damping at or above rung k is at or above rung k + 1 when raised, and at or above rung k - 1 when lowered.
-- Rung 55 is above 1e10. What is particular to the numbers is one test that antt computes, `climbs`. Assumes nothing.
use mathlib.Core.Path.{◌≡◌, refl, sym, subst}
use mathlib.Core.Logic.{◌⊎◌, inl, inr}
use mathlib.Core.Bool.{Bool, true, false, ◌&&◌}
use Prim.Native.Nat.{ℕ, zero, suc, ◌+◌, ◌-◌, ◌*◌, ◌%◌, ◌^◌, ◌≤◌, ◌<◌, zero-le, suc-le-suc}
use native.Mathlib.Nat.{zero-mul, lt_irrefl, zero-lt-suc, not-le_of_lt, eq-or-lt_of_le, le_trans, le_of_eq, mul_right_comm, mul-le-mul_right, mul-le-mul_left, mul-pos, mul-one, one-mul, mul_left_comm}
use native.Mathlib.Omega.{arith}
use lib.IntN.{negsuc}
use lib.Dec.{T, ltb, leb, eqb, leb→le, ltb→lt, lt→ltb}
use lib.Pow.{pow_pos}
use lib.Ieee.{Float, nan, inf, fin, binary32, up, down, round, mul, div, lt, le, fits}
use lib.Ieee.Fits.{up_pos, and_l, and_r}
use lib.Ieee.Order.{round_mono}
use lib.Ieee.Positive.{num, den, den_pos}
use Rattle.numbers.specs.Notation.{num as number, ratio, ratio32, if_then}
use Rattle.decisions.specs.Damping.{lambda_factor, lambda_min, lambda_max, increased, decreased}
use Rattle.numbers.proofs.Order.{plain, unsigned, le→frac, frac→le, le_through, le_of_not_lt, le_of_lt', plain_below, plain_unsigned, round_unsigned}

unfoldable pub rung : ℕ → Float
rung zero = fin false 1 (negsuc 148)
rung (suc k) = increased (rung k)

-- from r up for n rungs: each is plain and no higher than the next one lowered, and the last is above 1e10
climbs : ℕ → Float → Bool
climbs zero r = plain r && lt lambda_max r
climbs (suc n) r = plain r && (le r (decreased (increased r)) && climbs n (increased r))

climbs_all : T (climbs 55 (fin false 1 (negsuc 148)))
unfolding climbs increased decreased if_then mul div lt le ratio ratio32
climbs_all = tt

-- ---- raising and lowering keep the order
increased_is : (x : Float) → T (plain x) → increased x ≡ round binary32 false (num x * 10) (den x * 1)
unfolding increased mul ratio
increased_is nan p = absurd p
increased_is (inf s) p = absurd p
increased_is (fin true m e) p = absurd p
increased_is (fin false m e) p = refl

tenth_is : (x : Float) → T (plain x) → div binary32 x lambda_factor ≡ round binary32 false (num x * 1) (10 * den x)
unfolding div ratio
tenth_is nan p = absurd p
tenth_is (inf s) p = absurd p
tenth_is (fin true m e) p = absurd p
tenth_is (fin false m e) p = refl

scaled : (a b c d : ℕ) → a * d ≤ c * b → a * 10 * (d * 1) ≤ c * 10 * (b * 1)
scaled a b c d h =
    le_trans (le_of_eq (simp (mul-one, mul_right_comm))) (le_trans (mul-le-mul_right 10 h) (le_of_eq (simp (mul-one, mul_right_comm))))

shrunk : (a b c d : ℕ) → a * d ≤ c * b → a * 1 * (10 * d) ≤ c * 1 * (10 * b)
shrunk a b c d h =
    le_trans (le_of_eq (simp (mul-one, mul_left_comm))) (le_trans (mul-le-mul_left 10 h) (le_of_eq (simp (mul-one, mul_left_comm))))

increased_mono : (x y : Float) → T (plain x) → T (plain y) → T (le x y) → T (le (increased x) (increased y))
increased_mono x y p q h =
    subst (λ (z : Float). T (le z (increased y))) (sym (increased_is x p))
    (subst (λ (z : Float). T (le (round binary32 false (num x * 10) (den x * 1)) z)) (sym (increased_is y q))
    (round_mono binary32 (num x * 10) (den x * 1) (num y * 10) (den y * 1) (mul-pos (den_pos x) (pow_pos 0)) (mul-pos (den_pos y) (pow_pos 0)) (scaled (num x) (den x) (num y) (den y) (le→frac x y p q h))))

tenth_mono : (x y : Float) → T (plain x) → T (plain y) → T (le x y) → T (le (div binary32 x lambda_factor) (div binary32 y lambda_factor))
tenth_mono x y p q h =
    subst (λ (z : Float). T (le z (div binary32 y lambda_factor))) (sym (tenth_is x p))
    (subst (λ (z : Float). T (le (round binary32 false (num x * 1) (10 * den x)) z)) (sym (tenth_is y q))
    (round_mono binary32 (num x * 1) (10 * den x) (num y * 1) (10 * den y) (mul-pos (ltb→lt 0 10 tt) (den_pos x)) (mul-pos (ltb→lt 0 10 tt) (den_pos y)) (shrunk (num x) (den x) (num y) (den y) (le→frac x y p q h))))

increased_unsigned : (x : Float) → T (plain x) → T (unsigned (increased x))
increased_unsigned x p = subst (λ (z : Float). T (unsigned z)) (sym (increased_is x p)) (round_unsigned binary32 (num x * 10) (den x * 1))

tenth_unsigned : (x : Float) → T (plain x) → T (unsigned (div binary32 x lambda_factor))
tenth_unsigned x p = subst (λ (z : Float). T (unsigned z)) (sym (tenth_is x p)) (round_unsigned binary32 (num x * 1) (10 * den x))

least_plain : T (plain lambda_min)
unfolding ratio32
least_plain = tt

most_plain : T (plain lambda_max)
unfolding ratio32
most_plain = tt

same : (x : Float) → T (plain x) → T (le x x)
same x p = frac→le x x p p (le_of_eq refl)

-- ---- the larger of a value and 1e-10
abbrev at_least : Float → Float
at_least q = if_then (lt q lambda_min) lambda_min q

least_under : (q : Float) → T (unsigned q) → T (le lambda_min (at_least q))
unfolding if_then
least_under q p = go (lt q lambda_min) refl
  where
    go : (b : Bool) → lt q lambda_min ≡ b → T (le lambda_min (if_then b lambda_min q))
    go true e = same lambda_min least_plain
    go false e = le_of_not_lt lambda_min q (plain_unsigned lambda_min least_plain) p e

at_least_unsigned : (q : Float) → T (unsigned q) → T (unsigned (at_least q))
unfolding if_then
at_least_unsigned q p = go (lt q lambda_min)
  where
    go : (b : Bool) → T (unsigned (if_then b lambda_min q))
    go true = plain_unsigned lambda_min least_plain
    go false = p

at_least_mono : (q r : Float) → T (unsigned q) → T (unsigned r) → T (le q r) → T (le (at_least q) (at_least r))
unfolding if_then
at_least_mono q r p s h = go (lt q lambda_min) (lt r lambda_min) refl
  where
    go : (b c : Bool) → lt r lambda_min ≡ c → T (le (if_then b lambda_min q) (if_then c lambda_min r))
    go true true e = same lambda_min least_plain
    go true false e = le_of_not_lt lambda_min r (plain_unsigned lambda_min least_plain) s e
    go false true e = le_through q r lambda_min p s (plain_unsigned lambda_min least_plain) h (le_of_lt' r lambda_min (subst T (sym e) tt))
    go false false e = h

decreased_mono : (x y : Float) → T (plain x) → T (plain y) → T (le x y) → T (le (decreased x) (decreased y))
unfolding decreased
decreased_mono x y p q h = at_least_mono (div binary32 x lambda_factor) (div binary32 y lambda_factor) (tenth_unsigned x p) (tenth_unsigned y q) (tenth_mono x y p q h)

decreased_unsigned : (x : Float) → T (plain x) → T (unsigned (decreased x))
unfolding decreased
decreased_unsigned x p = at_least_unsigned (div binary32 x lambda_factor) (tenth_unsigned x p)

decreased_least : (x : Float) → T (plain x) → T (le lambda_min (decreased x))
unfolding decreased
decreased_least x p = least_under (div binary32 x lambda_factor) (tenth_unsigned x p)

decreased_top : T (le (decreased lambda_max) lambda_max)
unfolding decreased if_then div lt le ratio ratio32
decreased_top = tt

decreased_under : (x : Float) → T (plain x) → T (le x lambda_max) → T (le (decreased x) lambda_max)
decreased_under x p h =
    le_through (decreased x) (decreased lambda_max) lambda_max (decreased_unsigned x p) (decreased_unsigned lambda_max most_plain) (plain_unsigned lambda_max most_plain) (decreased_mono x lambda_max p most_plain h) decreased_top

decreased_plain : (x : Float) → T (plain x) → T (le x lambda_max) → T (plain (decreased x))
decreased_plain x p h = plain_below (decreased x) lambda_max (decreased_unsigned x p) most_plain (decreased_under x p h)

-- ---- the rungs
step_down : (j k : ℕ) → suc k + j ≡ 55 → k + suc j ≡ 55
step_down j k e = omega arith

reach : (j k : ℕ) → k + j ≡ 55 → T (climbs j (rung k))
unfolding rung climbs
reach j zero e = let h : 55 ≡ j = omega arith in subst (λ (n : ℕ). T (climbs n (fin false 1 (negsuc 148)))) h climbs_all
reach j (suc k) e =
    let r = rung k in
    and_r (le r (decreased (increased r))) (climbs j (increased r)) (and_r (plain r) (le r (decreased (increased r)) && climbs j (increased r)) (reach (suc j) k (step_down j k e)))

plain_at : (j : ℕ) (r : Float) → T (climbs j r) → T (plain r)
unfolding climbs
plain_at zero r t = and_l (plain r) (lt lambda_max r) t
plain_at (suc j) r t = and_l (plain r) (le r (decreased (increased r)) && climbs j (increased r)) t

rest : (k n : ℕ) → k ≤ n → k + (n - k) ≡ n
rest k n h = omega arith

rest_suc : (k : ℕ) → k ≤ 54 → k + suc (54 - k) ≡ 55
rest_suc k h = omega arith

rung_plain : (k : ℕ) → k ≤ 55 → T (plain (rung k))
rung_plain k h = plain_at (55 - k) (rung k) (reach (55 - k) k (rest k 55 h))

rung_decreased : (k : ℕ) → k ≤ 54 → T (le (rung k) (decreased (rung (suc k))))
unfolding rung climbs
rung_decreased k h =
    let r = rung k in
    let j = 54 - k in
    and_l (le r (decreased (increased r))) (climbs j (increased r)) (and_r (plain r) (le r (decreased (increased r)) && climbs j (increased r)) (reach (suc j) k (rest_suc k h)))

rung_top : T (lt lambda_max (rung 55))
unfolding climbs
rung_top = and_r (plain (rung 55)) (lt lambda_max (rung 55)) (reach 0 55 refl)

clash : (x y : Float) → T (plain x) → T (plain y) → T (lt x y) → T (le y x) → ⊥
unfolding lt
clash nan y p q h k = absurd p
clash (inf s) y p q h k = absurd p
clash (fin true m e) y p q h k = absurd p
clash (fin false m e) nan p q h k = absurd q
clash (fin false m e) (inf t) p q h k = absurd q
clash (fin false m e) (fin true n d) p q h k = absurd q
clash (fin false m e) (fin false n d) p q h k =
    not-le_of_lt (ltb→lt (m * up e * down d) (n * up d * down e) h) (le→frac (fin false n d) (fin false m e) tt tt k)

ground : T (le (rung 0) lambda_min)
unfolding rung le ratio32
ground = tt

first_up : T (le (rung 0) (rung 1))
unfolding rung le increased mul ratio
first_up = tt

-- ---- a damping at a level
pub record At (k : ℕ) (d : Float) : Type 0 where
  pub low : k ≤ 54
  pub is_plain : T (plain d)
  pub above : T (le (rung k) d)
  pub under : T (le d lambda_max)

-- no damping up to 1e10 is at rung 55
not_top : (d : Float) → T (plain d) → T (le d lambda_max) → T (le (rung 55) d) → ⊥
not_top d p u h =
    clash lambda_max (rung 55) most_plain (rung_plain 55 (le_of_eq refl)) rung_top
    (le_through (rung 55) d lambda_max (plain_unsigned (rung 55) (rung_plain 55 (le_of_eq refl))) (plain_unsigned d p) (plain_unsigned lambda_max most_plain) h u)

-- no rung is below the first
above_ground : (k : ℕ) → k ≤ 54 → T (le (rung 0) (rung k))
unfolding rung
above_ground zero h = same (rung 0) (rung_plain 0 zero-le)
above_ground (suc k) h =
    let p : T (plain (rung k)) = rung_plain k (omega arith) in
    le_through (rung 0) (rung 1) (rung (suc k)) (plain_unsigned (rung 0) (rung_plain 0 zero-le)) (plain_unsigned (rung 1) (rung_plain 1 (leb→le 1 55 tt))) (increased_unsigned (rung k) p) first_up
    (increased_mono (rung 0) (rung k) (rung_plain 0 zero-le) p (above_ground k (omega arith)))

zero_unsigned : T (unsigned (number 0))
unfolding ratio
zero_unsigned = tt

zero_below : T (le (rung 0) (number 0)) → ⊥
unfolding rung le ratio
zero_below h = h

-- a damping at a level is above 0, and not above 1e10
module _ (k : ℕ) (d : Float) (a : At k d) where
  pub at_above : lt (number 0) d ≡ true
  at_above = go (lt (number 0) d) refl
    where
      go : (b : Bool) → lt (number 0) d ≡ b → b ≡ true
      go true e = refl
      go false e =
          let r : T (unsigned (rung 0)) = plain_unsigned (rung 0) (rung_plain 0 zero-le) in
          let s : T (unsigned (rung k)) = plain_unsigned (rung k) (rung_plain k (le_trans a.low (leb→le 54 55 tt))) in
          let t : T (unsigned d) = plain_unsigned d a.is_plain in
          absurd (zero_below
          (le_through (rung 0) (rung k) (number 0) r s zero_unsigned (above_ground k a.low)
          (le_through (rung k) d (number 0) s t zero_unsigned a.above (le_of_not_lt d (number 0) t zero_unsigned e))))

  pub at_most : lt lambda_max d ≡ false
  at_most = go (lt lambda_max d) refl
    where
      go : (b : Bool) → lt lambda_max d ≡ b → b ≡ false
      go true e = absurd (clash lambda_max d most_plain a.is_plain (subst T (sym e) tt) a.under)
      go false e = refl

-- at or above a rung up to 55, and up to 1e10: at that level
at_of : (k : ℕ) (d : Float) → k ≤ 55 → T (plain d) → T (le (rung k) d) → T (le d lambda_max) → At k d
at_of k d h p a u = record { low = go (eq-or-lt_of_le h); is_plain = p; above = a; under = u }
  where
    go : (k ≡ 55) ⊎ (k < 55) → k ≤ 54
    go (inl e) = absurd (not_top d p u (subst (λ (n : ℕ). T (le (rung n) d)) e a))
    go (inr l) = omega arith

-- raised, and still up to 1e10: one level up, and from the ground never below it
module _ (k : ℕ) (d : Float) (a : At k d) (e : lt lambda_max (increased d) ≡ false) where
  still_under : T (le (increased d) lambda_max)
  still_under = le_of_not_lt (increased d) lambda_max (increased_unsigned d a.is_plain) (plain_unsigned lambda_max most_plain) e

  still_plain : T (plain (increased d))
  still_plain = plain_below (increased d) lambda_max (increased_unsigned d a.is_plain) most_plain still_under

  up_one : T (le (rung (suc k)) (increased d))
  unfolding rung
  up_one = increased_mono (rung k) d (rung_plain k (le_trans a.low (leb→le 54 55 tt))) a.is_plain a.above

  pub raise_at : At (suc k) (increased d)
  raise_at = at_of (suc k) (increased d) (suc-le-suc a.low) still_plain up_one still_under

pub raise_ground : (d : Float) → At 0 d → lt lambda_max (increased d) ≡ false → At 0 (increased d)
raise_ground d a e =
    at_of 0 (increased d) zero-le (still_plain 0 d a e)
    (le_through (rung 0) (rung 1) (increased d) (plain_unsigned (rung 0) (rung_plain 0 zero-le)) (plain_unsigned (rung 1) (rung_plain 1 (leb→le 1 55 tt))) (increased_unsigned d a.is_plain) first_up (up_one 0 d a e))
    (still_under 0 d a e)

-- lowered: one level down, and never below the ground
pub lower_at : (k : ℕ) (d : Float) → At (suc k) d → At k (decreased d)
lower_at k d a =
    let p = a.is_plain in
    let h : k ≤ 54 = omega (arith, a.low) in
    let q : T (plain (rung (suc k))) = rung_plain (suc k) (suc-le-suc h) in
    record {
      low = h;
      is_plain = decreased_plain d p a.under;
      above =
          le_through (rung k) (decreased (rung (suc k))) (decreased d) (plain_unsigned (rung k) (rung_plain k (le_trans h (leb→le 54 55 tt)))) (decreased_unsigned (rung (suc k)) q) (decreased_unsigned d p) (rung_decreased k h)
          (decreased_mono (rung (suc k)) d q p a.above);
      under = decreased_under d p a.under;
    }

pub lower_ground : (k : ℕ) (d : Float) → At k d → At 0 (decreased d)
lower_ground k d a =
    let p = a.is_plain in
    record {
      low = zero-le;
      is_plain = decreased_plain d p a.under;
      above = le_through (rung 0) lambda_min (decreased d) (plain_unsigned (rung 0) (rung_plain 0 zero-le)) (plain_unsigned lambda_min least_plain) (decreased_unsigned d p) ground (decreased_least d p);
      under = decreased_under d p a.under;
    }

-- ---- the first damping: an f32 above 0 and up to 1e10 is at rung 0 or above
wide : (m u d : ℕ) → 0 < u → d ≤ 2 ^ 149 → 1 * d ≤ suc m * u * 2 ^ 149
wide m u d U h =
    le_trans (le_of_eq (one-mul d))
    (le_trans h
    (le_trans (le_of_eq (sym (one-mul (2 ^ 149)))) (mul-le-mul_right (2 ^ 149) (mul-pos (ltb→lt 0 (suc m) (leb_one m)) U))))
  where
    leb_one : (n : ℕ) → T (ltb 0 (suc n))
    leb_one n = lt→ltb 0 (suc n) (zero-lt-suc n)

pub first_at : (d : Float) → T (fits binary32 d) → T (lt (number 0) d) → T (le d lambda_max) → At 0 d
unfolding fits lt le ratio ratio32 rung
first_at nan f p u = absurd p
first_at (inf true) f p u = absurd p
first_at (inf false) f p u = absurd u
first_at (fin true m e) f p u = absurd p
first_at (fin false zero e) f p u = absurd (lt_irrefl 0 (simp zero-mul at (ltb→lt (0 * down e) (0 * up e * 1) p)))
first_at (fin false (suc m) e) f p u =
    let a : Bool = eqb (suc m % 2) 1 in
    let b : Bool = ltb (suc m) (2 ^ 24) in
    let c : Bool = leb (down e) (2 ^ 149) in
    let g : Bool = ltb (suc m * up e) (2 ^ 128 * down e) in
    record {
      low = zero-le;
      is_plain = tt;
      above = frac→le (rung 0) (fin false (suc m) e) tt tt (wide m (up e) (down e) (up_pos e) (leb→le (down e) (2 ^ 149) (and_r (a && b) c (and_l (a && b && c) g f))));
      under = u;
    }
