-- An exact number beside fractions: a fraction may be written in another way, made larger or smaller. Assumes nothing.
use Rattle.std.proofs.Common.{◌≡◌, ℕ, zero, suc, ◌*◌, ◌^◌, ◌<◌, ◌≤◌, sym, ap, ◌∙◌, le_trans, le_of_eq, le_of_suc-le-suc, mul-le-mul_right, mul-lt-mul_of_pos_right, pow-suc, lt_of_not-le, ne_of_gt, mul_right_comm, not-le_of_lt, le_of_mul-le-mul_right}
use native.Mathlib.Nat.{mul-mul-mul_comm}
use native.Mathlib.Nat.{one-le-pow, pow-zero, pow-le-pow_left, pow-lt-pow_left}
use Rattle.numbers.specs.Rounds.{Exact, Below, NoMore, NoLess}

mul_pow : (a b n : ℕ) → (a * b) ^ n ≡ a ^ n * b ^ n
mul_pow a b zero = simp pow-zero
mul_pow a b (suc n) =
    pow-suc (a * b) n
    ∙ ap (λ (z : ℕ). z * (a * b)) (mul_pow a b n)
    ∙ mul-mul-mul_comm (a ^ n) (b ^ n) a b
    ∙ sym (ap (λ (z : ℕ). z * b ^ suc n) (pow-suc a n) ∙ ap (λ (z : ℕ). a ^ n * a * z) (pow-suc b n))

-- two fractions that are one, their powers times g
cross_pow : (a b c d g n : ℕ) → a * d ≡ c * b → a ^ n * g * d ^ n ≡ c ^ n * g * b ^ n
cross_pow a b c d g n e =
    mul_right_comm (a ^ n) g (d ^ n)
    ∙ ap (λ (z : ℕ). z * g) (sym (mul_pow a d n) ∙ ap (λ (z : ℕ). z ^ n) e ∙ mul_pow c b n)
    ∙ mul_right_comm (c ^ n) (b ^ n) g

module _ (x : Exact) where
  -- ---- a / b and c / d are one

  pub no_more_as : (a b c d : ℕ) → 0 < b → a * d ≡ c * b → NoMore x a b → NoMore x c d
  no_more_as a b c d B e h =
      le_of_mul-le-mul_right
      (le_trans (le_of_eq (mul_right_comm x.numerator (d ^ x.power) (b ^ x.power)))
      (le_trans (mul-le-mul_right (d ^ x.power) h) (le_of_eq (cross_pow a b c d x.denominator x.power e))))
      (one-le-pow x.power b B)

  pub no_less_as : (a b c d : ℕ) → 0 < b → a * d ≡ c * b → NoLess x a b → NoLess x c d
  no_less_as a b c d B e h =
      le_of_mul-le-mul_right
      (le_trans (le_of_eq (sym (cross_pow a b c d x.denominator x.power e)))
      (le_trans (mul-le-mul_right (d ^ x.power) h) (le_of_eq (mul_right_comm x.numerator (b ^ x.power) (d ^ x.power)))))
      (one-le-pow x.power b B)

  pub below_as : (a b c d : ℕ) → 0 < d → a * d ≡ c * b → Below x a b → Below x c d
  below_as a b c d D e h = lt_of_not-le (λ (g : NoLess x c d). not-le_of_lt h (no_less_as c d a b D (sym e) g))

  -- ---- a larger fraction, a smaller one

  pub no_more_up : (a b c : ℕ) → a ≤ c → NoMore x a b → NoMore x c b
  no_more_up a b c l h = le_trans h (mul-le-mul_right x.denominator (pow-le-pow_left l x.power))

  pub no_less_down : (a b c : ℕ) → c ≤ a → NoLess x a b → NoLess x c b
  no_less_down a b c l h = le_trans (mul-le-mul_right x.denominator (pow-le-pow_left l x.power)) h

  -- ---- what lies on either side of it is in order

  module _ (P : 0 < x.power) (D : 0 < x.denominator) where
    grows : (a c : ℕ) → a < c → a ^ x.power * x.denominator < c ^ x.power * x.denominator
    grows a c l = mul-lt-mul_of_pos_right (pow-lt-pow_left l (ne_of_gt P)) D

    pub in_order : (a b c : ℕ) → NoLess x a b → NoMore x c b → a ≤ c
    in_order a b c h k = le_of_suc-le-suc (lt_of_not-le (λ (l : c < a). not-le_of_lt (grows c a l) (le_trans h k)))

    pub in_strict_order : (a b c : ℕ) → NoLess x a b → Below x c b → a < c
    in_strict_order a b c h k = lt_of_not-le (λ (l : c ≤ a). not-le_of_lt k (no_less_down a b c l h))
