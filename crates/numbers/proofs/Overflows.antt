-- Where an infinity is given: a number of units that is nearest to an exact number is past the format's values just where the exact number has come half a
-- unit of the largest values near 2 ^ (emax + 1). With that the number is rounded. Assumes nothing.
use Rattle.std.proofs.Common.{◌≡◌, ℕ, suc, ◌+◌, ◌-◌, ◌*◌, ◌%◌, ◌^◌, ◌<◌, ◌≤◌, Bool, sym, ap, ◌∙◌, subst, le_trans, le_of_eq, lt_of_lt_of_le, mul-le-mul_right, zero-lt-suc, mul_assoc, mul_comm, lt_of_mul-lt-mul_right, mul-le-mul_left, mul-pos, lt_of_not-le, mul-one, not-le_of_lt, le_of_mul-le-mul_right, arith, lit≤, pow_pos, pow_mono, pow-add}
use Prim.Native.Nat.{compare, Ordering}
use native.Mathlib.Nat.{mul-sub}
use native.Mathlib.Nat.{pow-succ'}
use lib.Ieee.{Format, binary32, binary64, prec, emax, low, units, hid}
use lib.Ieee.Fits.{two, two-le_pos}
use Rattle.numbers.specs.Rounds.{Exact, Below, NoLess, overflow_from, RoundsTo}
use Rattle.numbers.proofs.Word.{Cmp, cmp}
use Rattle.numbers.proofs.Write.{over, twice_hid, units_over}
use Rattle.numbers.proofs.Exacts.{no_less_as, below_as, no_less_down, in_order, in_strict_order}
use Rattle.numbers.proofs.Nearby.{TwiceNoLess, TwiceNoMore, half_pos, NearestWhole, nearest_value}

-- the unit of the largest values
abbrev last : Format → ℕ
last f = low f + 1 + (emax f - prec f)

wide : (f : Format) → prec f ≤ emax f
wide binary32 = lit≤ tt
wide binary64 = lit≤ tt

over_is : (f : Format) → over f ≡ 2 ^ prec f * 2 ^ last f
over_is f = ap (λ (z : ℕ). 2 ^ z) (sums (prec f) (emax f) (low f) (wide f)) ∙ pow-add 2 (prec f) (last f)
  where
    sums : (p e l : ℕ) → p ≤ e → l + suc e ≡ p + (l + 1 + (e - p))
    sums p e l h = omega arith

overflow_is : (f : Format) → overflow_from f * (2 * 2 ^ low f) ≡ (2 * (2 ^ prec f * 2 ^ last f) - 2 ^ last f) * 1
overflow_is f =
    mul_comm (overflow_from f) (2 * 2 ^ low f)
    ∙ mul-sub (2 * 2 ^ low f) (2 ^ (emax f + 1)) (2 ^ (emax f - prec f))
    ∙ ap (λ (z : ℕ). z - 2 * 2 ^ low f * 2 ^ (emax f - prec f)) (mul_assoc 2 (2 ^ low f) (2 ^ (emax f + 1)) ∙ ap (λ (z : ℕ). 2 * z) all_units)
    ∙ ap (λ (z : ℕ). 2 * (2 ^ prec f * 2 ^ last f) - z) half_unit
    ∙ sym (mul-one (2 * (2 ^ prec f * 2 ^ last f) - 2 ^ last f))
  where
    one_more_lem : (l e : ℕ) → l + (e + 1) ≡ l + suc e
    one_more_lem l e = omega arith

    all_units : 2 ^ low f * 2 ^ (emax f + 1) ≡ 2 ^ prec f * 2 ^ last f
    all_units = sym (pow-add 2 (low f) (emax f + 1)) ∙ ap (λ (z : ℕ). 2 ^ z) (one_more_lem (low f) (emax f)) ∙ over_is f

    half_unit : 2 * 2 ^ low f * 2 ^ (emax f - prec f) ≡ 2 ^ last f
    half_unit =
        ap (λ (z : ℕ). z * 2 ^ (emax f - prec f)) (mul_comm 2 (2 ^ low f) ∙ sym (pow-add 2 (low f) 1)) ∙ sym (pow-add 2 (low f + 1) (emax f - prec f))

some : (j k : ℕ) → j < k → 0 < k
some j k l = omega arith

twice_pow : (j k : ℕ) → j < k → 2 * 2 ^ j ≤ 2 ^ k
twice_pow j k h = le_trans (le_of_eq (sym (pow-succ' 2 j))) (pow_mono h)

module _ (f : Format) (x : Exact) (P : 0 < x.power) (D : 0 < x.denominator) (r k : ℕ) (N : NearestWhole f x r k) where
  full_twice : 2 ^ prec f ≡ 2 * hid f
  full_twice = twice_hid (prec f) (two-le_pos (prec f) (two f))

  wide_units : last f < k → 2 ^ prec f * 2 ^ last f ≤ hid f * 2 ^ k
  wide_units l =
      le_trans (le_of_eq (ap (λ (z : ℕ). z * 2 ^ last f) full_twice ∙ swap (hid f) (2 ^ last f))) (mul-le-mul_left (hid f) (twice_pow (last f) k l))
    where
      swap : (h z : ℕ) → 2 * h * z ≡ h * (2 * z)
      swap h z = omega arith

  stays_finite : Below x (overflow_from f) 1 → r * 2 ^ k < over f
  stays_finite b = lt_of_not-le (λ (h : over f ≤ r * 2 ^ k). go (le_trans (le_of_eq (sym (over_is f))) h) (compare k (last f)) (cmp k (last f)))
    where
      limit : Below x (2 * (2 ^ prec f * 2 ^ last f) - 2 ^ last f) (2 * 2 ^ low f)
      limit = below_as x (overflow_from f) 1 _ (2 * 2 ^ low f) (half_pos f) (overflow_is f) b

      short : (w y z r : ℕ) → 0 < y → 2 * y ≤ z → w * z ≤ r * y → r ≤ w → 0 < w → ⊥
      short w y z r Y h l m W =
          let a : w * (2 * y) ≤ w * z = mul-le-mul_left w h in
          let b : r * y ≤ w * y = mul-le-mul_right y m in
          let c : 0 < w * y = mul-pos W Y in
          omega arith

      level : (w z r : ℕ) → w * z ≤ r * z → 2 * r * z - z < 2 * (w * z) - z → ⊥
      level w z r a b = omega arith

      long : (w z g : ℕ) → w * z ≤ g → 2 * g < 2 * (w * z) - z → ⊥
      long w z g a b = omega arith

      go : 2 ^ prec f * 2 ^ last f ≤ r * 2 ^ k → (o : Ordering) → Cmp o k (last f) → ⊥
      go h Ordering.lt l = short (2 ^ prec f) (2 ^ k) (2 ^ last f) r (pow_pos k) (twice_pow k (last f) l) h N.few (pow_pos (prec f))
      go h Ordering.eq e =
          level (2 ^ prec f) (2 ^ last f) r (subst (λ (j : ℕ). 2 ^ prec f * 2 ^ last f ≤ r * 2 ^ j) e h)
          (in_strict_order x P D _ (2 * 2 ^ low f) _ (subst (λ (j : ℕ). TwiceNoLess f x (2 * r * 2 ^ j - 2 ^ j)) e N.low_side) limit)
      go h Ordering.gt l =
          long (2 ^ prec f) (2 ^ last f) (hid f * 2 ^ k) (wide_units l)
          (as_lt (mul_assoc 2 (hid f) (2 ^ k)) (in_strict_order x P D _ (2 * 2 ^ low f) _ (N.reached (some (last f) k l)) limit))
        where
          as_lt : {a b c : ℕ} → a ≡ b → a < c → b < c
          as_lt e l = omega arith

  overflows : NoLess x (overflow_from f) 1 → over f ≤ r * 2 ^ k
  overflows b = le_of_not (λ (h : r * 2 ^ k < over f). go (lt_of_lt_of_le h (le_of_eq (over_is f))) (compare k (last f)) (cmp k (last f)))
    where
      le_of_not : {m n : ℕ} → (n < m → ⊥) → m ≤ n
      le_of_not h = omega arith

      limit : TwiceNoLess f x (2 * (2 ^ prec f * 2 ^ last f) - 2 ^ last f)
      limit = no_less_as x (overflow_from f) 1 _ (2 * 2 ^ low f) (zero-lt-suc 0) (overflow_is f) b

      short : (w y z r : ℕ) → 0 < z → 2 * y ≤ z → r ≤ w → 4 ≤ w → 2 * (w * z) - z ≤ 2 * r * y + y → ⊥
      short w y z r Z h m W l =
          let a : w * (2 * y) ≤ w * z = mul-le-mul_left w h in
          let b : r * y ≤ w * y = mul-le-mul_right y m in
          let c : 4 * z ≤ w * z = mul-le-mul_right z W in
          omega arith

      -- the largest value, whose digits are all ones
      top_odd : (w z r : ℕ) → 0 < z → r * z < w * z → 2 * (w * z) - z ≤ 2 * r * z + z → w ≡ suc r
      top_odd w z r Z a b =
          let g : suc r ≤ w = lt_of_mul-lt-mul_right z a in
          let l : w ≤ suc r = le_of_mul-le-mul_right {m = w} {n = suc r} {k = z} (omega arith) Z in
          omega arith

      odd_even : (w h r : ℕ) → w ≡ 2 * h → w ≡ suc r → r % 2 ≡ 0 → ⊥
      odd_even w h r a b c = omega arith

      go : r * 2 ^ k < 2 ^ prec f * 2 ^ last f → (o : Ordering) → Cmp o k (last f) → ⊥
      go h Ordering.lt l =
          short (2 ^ prec f) (2 ^ k) (2 ^ last f) r (pow_pos (last f)) (twice_pow k (last f) l) N.few (pow_mono (two f))
          (in_order x P D _ (2 * 2 ^ low f) _ limit N.high_side)
      go h Ordering.eq e =
          let m = subst (λ (j : ℕ). TwiceNoMore f x (2 * r * 2 ^ j + 2 ^ j)) e N.high_side in
          let u : r * 2 ^ last f < 2 ^ prec f * 2 ^ last f = subst (λ (j : ℕ). r * 2 ^ j < 2 ^ prec f * 2 ^ last f) e h in
          let t = top_odd (2 ^ prec f) (2 ^ last f) r (pow_pos (last f)) u (in_order x P D _ (2 * 2 ^ low f) _ limit m) in
          odd_even (2 ^ prec f) (hid f) r full_twice t
          (N.high_tie (subst (λ (j : ℕ). TwiceNoLess f x (2 * r * 2 ^ j + 2 ^ j)) (sym e) (no_less_down x _ _ _ (meets (2 ^ prec f) (2 ^ last f) r t) limit)))
        where
          meets : (w z r : ℕ) → w ≡ suc r → 2 * r * z + z ≤ 2 * (w * z) - z
          meets w z r e = subst (λ (y : ℕ). 2 * r * z + z ≤ 2 * (y * z) - z) (sym e) (omega arith)
      go h Ordering.gt l = not-le_of_lt h (le_trans (wide_units l) (mul-le-mul_right (2 ^ k) (N.full (some (last f) k l))))

  pub rounds : (s : Bool) → RoundsTo f s x (units f s r k)
  rounds s = record {
    finite = λ b. nearest_value f s x r k N (stays_finite b);
    infinite = λ b. units_over f s r k (overflows b);
  }
