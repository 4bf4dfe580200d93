-- Why a whole number of units is the nearest value: of an exact number only what lies on either side of it is asked, half a unit away. Assumes nothing.
use Rattle.std.proofs.Common.{◌≡◌, ℕ, zero, suc, ◌+◌, ◌-◌, ◌*◌, ◌%◌, ◌^◌, ◌<◌, ◌≤◌, Bool, ◌⊎◌, sym, refl, ◌∙◌, subst, inl, inr, le_trans, le_of_eq, le_of_suc-le-suc, le_of_lt, mul-le-mul_right, zero-lt-suc, eq-zero-or-pos, eq-or-lt_of_le, mul-le-mul_left, mul-pos, lt_of_not-le, not-le_of_lt, arith, pow_pos}
use Prim.Native.Nat.{compare, Ordering}
use lib.Ieee.{Float, Format, prec, low, nearest, units, hid}
use lib.Ieee.Fits.{two, two-le_pos}
use lib.Ieee.Exact.{HasValue, units_val}
use lib.Ieee.Positive.{den_pos}
use Rattle.numbers.specs.Rounds.{Exact, Below, NoMore, NoLess, ValueOf, Smaller, middle, twice, NearestValue}
use Rattle.numbers.proofs.Word.{Cmp, cmp}
use Rattle.numbers.proofs.Write.{over, same_value}
use Rattle.numbers.proofs.Exacts.{no_more_as, no_less_as, no_more_up, no_less_down, in_order, in_strict_order, below_as}
use Rattle.numbers.proofs.Counts.{Counted, count, counted, value_fits, value_of, units_fit, no_value_between, hid_even, bits_parity}
use Rattle.numbers.proofs.Counts.{smaller, count_smaller, middle_is}

-- ---- twice the number is c smallest values at least, at most

abbrev pub TwiceNoLess : Format → Exact → ℕ → Type 0
TwiceNoLess f x c = NoLess x c (2 * 2 ^ low f)

abbrev pub TwiceNoMore : Format → Exact → ℕ → Type 0
TwiceNoMore f x c = NoMore x c (2 * 2 ^ low f)

pub half_pos : (f : Format) → 0 < 2 * 2 ^ low f
half_pos f = mul-pos (zero-lt-suc 1) (pow_pos (low f))

module _ (f : Format) (s : Bool) (x : Exact) (v w : Float) (a b : ℕ) (X : HasValue v s a (2 ^ low f)) (Y : HasValue w s b (2 ^ low f)) where
  halves : middle v w * (2 * 2 ^ low f) ≡ (a + b) * twice v w
  halves = middle_is v w s a b (2 ^ low f) (pow_pos (low f)) X Y

  twice_pos : 0 < twice v w
  twice_pos = mul-pos (zero-lt-suc 1) (mul-pos (den_pos v) (den_pos w))

  pub to_most : NoMore x (middle v w) (twice v w) → TwiceNoMore f x (a + b)
  to_most = no_more_as x (middle v w) (twice v w) (a + b) (2 * 2 ^ low f) twice_pos halves

  pub to_least : NoLess x (middle v w) (twice v w) → TwiceNoLess f x (a + b)
  to_least = no_less_as x (middle v w) (twice v w) (a + b) (2 * 2 ^ low f) twice_pos halves

  pub of_most : TwiceNoMore f x (a + b) → NoMore x (middle v w) (twice v w)
  of_most = no_more_as x (a + b) (2 * 2 ^ low f) (middle v w) (twice v w) (half_pos f) (sym halves)

  pub of_least : TwiceNoLess f x (a + b) → NoLess x (middle v w) (twice v w)
  of_least = no_less_as x (a + b) (2 * 2 ^ low f) (middle v w) (twice v w) (half_pos f) (sym halves)

  pub as_smaller : a < b → Smaller v w
  as_smaller = smaller v w s a b (2 ^ low f) (pow_pos (low f)) X Y

  as_count : Smaller v w → a < b
  as_count = count_smaller v w s a b (2 ^ low f) (pow_pos (low f)) X Y

-- ---- r units of 2 ^ k smallest values are nearest to x: half a unit below r and half a unit above it lie on either side, and where x is there, r is even.
-- ---- If the unit is above the smallest, x has reached the first count that has all digits.

pub record NearestWhole (f : Format) (x : Exact) (r k : ℕ) : Type 0 where
  pub low_side : TwiceNoLess f x (2 * r * 2 ^ k - 2 ^ k)
  pub high_side : TwiceNoMore f x (2 * r * 2 ^ k + 2 ^ k)
  pub low_tie : TwiceNoMore f x (2 * r * 2 ^ k - 2 ^ k) → r % 2 ≡ 0
  pub high_tie : TwiceNoLess f x (2 * r * 2 ^ k + 2 ^ k) → r % 2 ≡ 0
  pub few : r ≤ 2 ^ prec f
  pub full : 0 < k → hid f ≤ r
  pub reached : 0 < k → TwiceNoLess f x (2 * hid f * 2 ^ k)

-- ---- values beside r units

larger_value : (f : Format) (s : Bool) (w : Float) (r k : ℕ) → (0 < k → hid f ≤ r) → (c : Counted f s w) → r * 2 ^ k < count c
    → 2 * r * 2 ^ k + 2 ^ k ≤ r * 2 ^ k + count c
larger_value f s w r k U c l =
    let g : suc r * 2 ^ k ≤ count c = no_value_between (prec f) r k c.digits c.dropped (two-le_pos (prec f) (two f)) U c.small l in
    omega arith

-- a smaller value is a unit away at least; or r is the first count with all digits, and the values below are closer together
smaller_value : (f : Format) (s : Bool) (w : Float) (r k : ℕ) → (0 < k → hid f ≤ r) → (c : Counted f s w) → count c < r * 2 ^ k
    → (r * 2 ^ k + count c ≤ 2 * r * 2 ^ k - 2 ^ k) ⊎ ((0 < k) × (hid f ≡ r))
smaller_value f s w zero k U c l = absurd (omega arith)
smaller_value f s w (suc r) k U c l = elim (eq-zero-or-pos k) [
  | inl z ↦ inl (apart (λ (g : 0 < k). absurd (omega arith)))
  | inr g ↦ elim (eq-or-lt_of_le (U g)) [ inl e ↦ inr (g, e) | inr h ↦ inl (apart (λ (_ : 0 < k). le_of_suc-le-suc h)) ]
]
  where
    apart : (0 < k → hid f ≤ r) → suc r * 2 ^ k + count c ≤ 2 * suc r * 2 ^ k - 2 ^ k
    apart B =
        let P = two-le_pos (prec f) (two f) in
        let h : count c < suc (r * 2 ^ k) =
        lt_of_not-le (λ (g : r * 2 ^ k < count c). not-le_of_lt l (no_value_between (prec f) r k c.digits c.dropped P B c.small g)) in
        omega arith

-- ---- the nearest value

module _ (f : Format) (s : Bool) (x : Exact) (r k : ℕ) (N : NearestWhole f x r k) (h : r * 2 ^ k < over f) where
  own : HasValue (units f s r k) s (r * 2 ^ k) (2 ^ low f)
  own = units_val f s r k h

  module _ (w : Float) (c : Counted f s w) where
    above : Smaller (units f s r k) w → NoMore x (middle (units f s r k) w) (twice (units f s r k) w)
    above l =
        let g = as_count f s x (units f s r k) w (r * 2 ^ k) (count c) own c.value l in
        of_most f s x (units f s r k) w (r * 2 ^ k) (count c) own c.value
        (no_more_up x _ _ _ (larger_value f s w r k N.full c g) N.high_side)

    below : Smaller w (units f s r k) → NoLess x (middle (units f s r k) w) (twice (units f s r k) w)
    below l =
        let g = as_count f s x w (units f s r k) (count c) (r * 2 ^ k) c.value own l in
        of_least f s x (units f s r k) w (r * 2 ^ k) (count c) own c.value
        (elim (smaller_value f s w r k N.full c g) [
          | inl a ↦ no_less_down x _ _ _ a N.low_side
          | inr a ↦ no_less_down x (2 * hid f * 2 ^ k) _ _ (first (hid f) r (2 ^ k) (count c) a.1 g) (N.reached a.0)
        ])
      where
        first : (h r y b : ℕ) → h ≡ r → b < r * y → r * y + b ≤ 2 * h * y
        first h r y b e l = subst (λ (z : ℕ). r * y + b ≤ 2 * z * y) (sym e) (omega arith)

    tie : ValueOf f s w → (w ≡ units f s r k → ⊥) → NoMore x (middle (units f s r k) w) (twice (units f s r k) w)
        → NoLess x (middle (units f s r k) w) (twice (units f s r k) w) → r % 2 ≡ 0
    tie W ne m l = go (compare (r * 2 ^ k) (count c)) (cmp (r * 2 ^ k) (count c))
      where
        half : (h g : ℕ) → h ≡ 2 * g → h ≡ r → r % 2 ≡ 0
        half h g a b = omega arith

        go : (o : Ordering) → Cmp o (r * 2 ^ k) (count c) → r % 2 ≡ 0
        go Ordering.lt g =
            N.high_tie (no_less_down x _ _ _ (larger_value f s w r k N.full c g) (to_least f s x (units f s r k) w (r * 2 ^ k) (count c) own c.value l))
        go Ordering.eq g =
            absurd (ne (same_value f w (units f s r k) s (r * 2 ^ k) (value_fits f s w W) (units_fit f s r k N.few N.full)
            (subst (λ (n : ℕ). HasValue w s n (2 ^ low f)) (sym g) c.value) own))
        go Ordering.gt g = elim (smaller_value f s w r k N.full c g) [
          | inl a ↦ N.low_tie (no_more_up x _ _ _ a (to_most f s x (units f s r k) w (r * 2 ^ k) (count c) own c.value m))
          | inr a ↦ half (hid f) (2 ^ (prec f - 1 - 1)) (hid_even f) a.1
        ]

  pub nearest_value : NearestValue f s x (units f s r k)
  nearest_value = record {
    value = value_of f s (units f s r k) (r * 2 ^ k) (2 ^ low f) (units_fit f s r k N.few N.full) own;
    below_larger = λ w W. above w (counted f s w W);
    above_smaller = λ w W. below w (counted f s w W);
    even_at_tie = λ w W ne m l. bits_parity f s (units f s r k) r k N.few N.full own ∙ tie w (counted f s w W) W ne m l;
  }

-- ---- from the whole part: q is that of x in units of 2 ^ k smallest values

module _ (f : Format) (x : Exact) (P : 0 < x.power) (D : 0 < x.denominator) (q k : ℕ) (few : q < 2 ^ prec f) (full : 0 < k → hid f ≤ q)
    (whole : NoLess x (q * 2 ^ k) (2 ^ low f)) (rest : Below x (suc q * 2 ^ k) (2 ^ low f)) where
  doubled : (a y l : ℕ) → a * y * (2 * l) ≡ 2 * a * y * l
  doubled a y l = omega arith

  least : TwiceNoLess f x (2 * q * 2 ^ k)
  least = no_less_as x (q * 2 ^ k) (2 ^ low f) (2 * q * 2 ^ k) (2 * 2 ^ low f) (pow_pos (low f)) (doubled q (2 ^ k) (2 ^ low f)) whole

  most : Below x (2 * suc q * 2 ^ k) (2 * 2 ^ low f)
  most = below_as x (suc q * 2 ^ k) (2 ^ low f) (2 * suc q * 2 ^ k) (2 * 2 ^ low f) (half_pos f) (doubled (suc q) (2 ^ k) (2 ^ low f)) rest

  reached : 0 < k → TwiceNoLess f x (2 * hid f * 2 ^ k)
  reached g = no_less_down x _ _ _ (mul-le-mul_right (2 ^ k) (mul-le-mul_left 2 (full g))) least

  stays : TwiceNoMore f x (2 * q * 2 ^ k + 2 ^ k) → (TwiceNoLess f x (2 * q * 2 ^ k + 2 ^ k) → q % 2 ≡ 0) → NearestWhole f x q k
  stays m t = record {
    low_side = no_less_down x _ _ _ (less (2 * q * 2 ^ k) (2 ^ k)) least;
    high_side = m;
    low_tie = λ h. none q (2 ^ k) (pow_pos k) (in_order x P D _ (2 * 2 ^ low f) _ least h);
    high_tie = t;
    few = le_of_lt few;
    full = full;
    reached = reached;
  }
    where
      less : (a y : ℕ) → a - y ≤ a
      less a y = omega arith

      none : (q y : ℕ) → 0 < y → 2 * q * y ≤ 2 * q * y - y → q % 2 ≡ 0
      none zero y Y h = omega arith
      none (suc q) y Y h = absurd (omega arith)

  moves : TwiceNoLess f x (2 * q * 2 ^ k + 2 ^ k) → (TwiceNoMore f x (2 * q * 2 ^ k + 2 ^ k) → suc q % 2 ≡ 0) → NearestWhole f x (suc q) k
  moves m t = record {
    low_side = no_less_down x _ _ _ (back q (2 ^ k)) m;
    high_side = no_more_up x _ _ _ (more (2 * suc q * 2 ^ k) (2 ^ k)) (le_of_lt most);
    low_tie = λ h. t (no_more_up x _ _ _ (back q (2 ^ k)) h);
    high_tie = λ h. absurd (not-le_of_lt (in_strict_order x P D _ (2 * 2 ^ low f) _ h most) (more (2 * suc q * 2 ^ k) (2 ^ k)));
    few = few;
    full = λ g. le_trans (full g) (more_one q);
    reached = reached;
  }
    where
      back : (q y : ℕ) → 2 * suc q * y - y ≤ 2 * q * y + y
      back q y = omega arith

      more : (a y : ℕ) → a ≤ a + y
      more a y = omega arith

      more_one : (q : ℕ) → q ≤ suc q
      more_one q = omega arith

  -- o says on which side of q + 1 / 2 x lies
  pub nearest_whole : (o : Ordering) → Cmp o (x.numerator * (2 * 2 ^ low f) ^ x.power) ((2 * q * 2 ^ k + 2 ^ k) ^ x.power * x.denominator)
      → NearestWhole f x (nearest q o) k
  nearest_whole Ordering.lt c = stays (le_of_lt c) (λ h. absurd (not-le_of_lt c h))
  nearest_whole Ordering.gt c = moves (le_of_lt c) (λ h. absurd (not-le_of_lt c h))
  nearest_whole Ordering.eq c = tie (q % 2) refl
    where
      tie : (b : ℕ) → q % 2 ≡ b → NearestWhole f x (q + b) k
      tie zero e = subst (λ (z : ℕ). NearestWhole f x z k) (plain q) (stays (le_of_eq c) (λ _. e))
        where
          plain : (q : ℕ) → q ≡ q + 0
          plain q = omega arith
      tie (suc zero) e = subst (λ (z : ℕ). NearestWhole f x z k) (one q) (moves (le_of_eq (sym c)) (λ _. even q e))
        where
          one : (q : ℕ) → suc q ≡ q + 1
          one q = omega arith

          even : (q : ℕ) → q % 2 ≡ 1 → suc q % 2 ≡ 0
          even q e = omega arith
      tie (suc (suc b)) e = absurd (omega arith)
