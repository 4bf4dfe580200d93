-- `roots::exponent_halved` meets its contract. q * 2 ^ a is q * 2 ^ odd * 2 ^ w times 4 ^ k, whose root is that of the first, in 2 ^ k.
-- Assumes nothing.
use Rattle.std.proofs.Common.{◌≡◌, ℕ, suc, ◌+◌, ◌-◌, ◌*◌, ◌/◌, ◌%◌, ◌^◌, ◌<◌, ◌≤◌, false, sym, ap, ◌∙◌, subst, le_trans, le_of_eq, lt_of_lt_of_le, mul-le-mul_right, mul_assoc, mul_comm, mul-le-mul_left, mul-lt-mul_of_pos_right, mul-pos, mul-one, arith, pow_pos, pow_mono, pow-add}
use native.Mathlib.Nat.{pow-succ'}
use lib.Bits.{bit_and, and_mask}
use lib.Ieee.{Format, prec, emax, low, ones, hid, units, of_bits, of_fields}
use Rattle.roots.specs.Roots.{root, NearestRoot}
use Rattle.roots.proofs.Rooting.{near_le, near_ge, root_nearest, hid_is, bits_le, plain_bits, rooted_at}
use Rattle.roots.proofs.exponent_halved.Goals as goal

-- the code's odd and k
abbrev odd : ℕ → ℕ → ℕ
odd a w = bit_and (a + w) 1

abbrev half : ℕ → ℕ → ℕ
half a w = (a - w - odd a w) / 2

parity : (a w : ℕ) → odd a w ≡ (a + w) % 2
parity a w = and_mask (a + w) 1

odd_le : (a w : ℕ) → odd a w ≤ 1
odd_le a w = rw (parity a w) (omega arith)

odd_in : (a w : ℕ) → w < a → odd a w ≤ a - w
odd_in a w h = omega (arith, odd_le a w)

whole : (a w : ℕ) → w < a → odd a w + w + 2 * half a w ≡ a
whole a w h = rw (parity a w) (even a w h)
  where
    even : (a w : ℕ) → w < a → (a + w) % 2 + w + 2 * ((a - w - (a + w) % 2) / 2) ≡ a
    even a w h = omega arith

module _ (q a w : ℕ) (lo : 2 ^ w ≤ q) (hi : q < 2 * 2 ^ w) (A : w < a) (n : ℕ) (N : NearestRoot (q * 2 ^ odd a w * 2 ^ w) n) where
  abbrev m : ℕ
  m = q * 2 ^ odd a w * 2 ^ w

  square_lo : 2 ^ w * 2 ^ w ≤ m
  square_lo = mul-le-mul_right (2 ^ w) (le_trans lo (le_trans (le_of_eq (sym (mul-one q))) (mul-le-mul_left q (pow_pos (odd a w)))))

  square_hi : m < 2 * 2 ^ w * (2 * 2 ^ w)
  square_hi =
      let t : 2 ^ odd a w ≤ 2 = pow_mono (odd_le a w) in
      let u : q * 2 ^ odd a w < 2 * 2 ^ w * 2 = lt_of_lt_of_le (mul-lt-mul_of_pos_right hi (pow_pos (odd a w))) (mul-le-mul_left (2 * 2 ^ w) t) in
      lt_of_lt_of_le (mul-lt-mul_of_pos_right u (pow_pos w)) (le_of_eq (mul_assoc (2 * 2 ^ w) 2 (2 ^ w)))

  near_lo : 2 ^ w ≤ n
  near_lo = near_ge m (2 ^ w) n square_lo N

  near_hi : n ≤ 2 * 2 ^ w
  near_hi = near_le m (2 * 2 ^ w) n square_hi N

  module _ (f : Format) (P : prec f ≡ suc w) (F : a < 4 * emax f) where
    unit : hid f ≡ 2 ^ w
    unit = hid_is f w P

    prec_is : 2 ^ prec f ≡ 2 * 2 ^ w
    prec_is = ap (λ (x : ℕ). 2 ^ x) P ∙ pow-succ' 2 w

    room : half a w + 2 ≤ ones f
    room = omega (arith, whole a w A)

    near_hi_f : n ≤ 2 ^ prec f
    near_hi_f = subst (λ (x : ℕ). n ≤ x) (sym prec_is) near_hi

    bound : half a w * 2 ^ w + n ≤ ones f * 2 ^ w
    bound = subst (λ (x : ℕ). half a w * x + n ≤ ones f * x) unit (bits_le f n (half a w) near_hi_f room)

    written : units f false n (half a w) ≡ of_bits f (half a w * 2 ^ w + n)
    written =
        plain_bits f n (half a w) near_hi_f (subst (λ (x : ℕ). x ≤ n) (sym unit) near_lo) room
        ∙ ap (λ (x : ℕ). of_bits f (half a w * x + n)) unit

    module _ (num den : ℕ) (D : 0 < den) (M : num * 2 ^ (2 * low f) ≡ q * 2 ^ a * den) where
      parts : q * 2 ^ a ≡ m * 2 ^ (2 * half a w)
      parts =
          ap (λ (x : ℕ). q * x)
          (ap (λ (x : ℕ). 2 ^ x) (sym (whole a w A))
          ∙ pow-add 2 (odd a w + w) (2 * half a w)
          ∙ ap (λ (x : ℕ). x * 2 ^ (2 * half a w)) (pow-add 2 (odd a w) w))
          ∙ sym (mul_assoc q (2 ^ odd a w * 2 ^ w) (2 ^ (2 * half a w)))
          ∙ ap (λ (x : ℕ). x * 2 ^ (2 * half a w)) (sym (mul_assoc q (2 ^ odd a w) (2 ^ w)))

      fraction : num * 2 ^ (2 * low f) ≡ m * (den * 2 ^ (2 * half a w))
      fraction =
          M
          ∙ ap (λ (x : ℕ). x * den) parts
          ∙ mul_assoc m (2 ^ (2 * half a w)) den
          ∙ ap (λ (x : ℕ). m * x) (mul_comm (2 ^ (2 * half a w)) den)

      rooted_bits : root f num den ≡ of_bits f (half a w * 2 ^ w + n)
      rooted_bits =
          root_nearest f num den m (half a w) D fraction
          (subst (λ (x : ℕ). x * x ≤ m) (sym unit) square_lo)
          (subst (λ (x : ℕ). m < x * x) (sym prec_is) square_hi)
          n N
          ∙ written

pub overflow_sub-result-2 : goal.overflow_sub-result-2
overflow_sub-result-2 c = odd_in c.unpacked-s.result.a c.args.w c.unpacked-s.ensures.2

pub returns : goal.returns
returns c =
    let w = c.args.w in
    let q = c.unpacked-s.result.q in
    let a = c.unpacked-s.result.a in
    let k = c.unpacked-s.ensures in (
      k.0,
      k.1,
      odd_le a w,
      omega (arith, whole a w k.2),
      λ f P L O n N.
          let r = k.4 f P L O in (
            bound q a w k.0 k.1 k.2 n N f P r.0,
            rooted_at f (of_fields f false (c.args.b / 2 ^ w) (c.args.b % 2 ^ w)) (q * 2 ^ a) (2 ^ (2 * c.args.least)) (of_bits f (half a w * 2 ^ w + n))
                (mul-pos (lt_of_lt_of_le (pow_pos w) k.0) (pow_pos a)) r.1
                (λ num den D M. rooted_bits q a w k.0 k.1 k.2 n N f P r.0 num den D (ap (λ (x : ℕ). num * 2 ^ (2 * x)) L ∙ M)),
          ),
    )
