-- `roots::lifted` meets its contract: a t of l + 1 digits, shifted by w - l, has w + 1. Assumes nothing.
use Rattle.std.proofs.Common.{◌≡◌, ℕ, ◌+◌, ◌-◌, ◌*◌, ◌%◌, ◌^◌, ◌<◌, ◌≤◌, refl, sym, ap, ◌∙◌, mul_assoc, lt_of_not-le, not-le_of_lt, le_trans, mul-le-mul_right, mul-lt-mul_of_pos_right, arith, pow_mono, pow_pos, pow-add}
use Rattle.roots.proofs.lifted.Goals as goal

module _ (t w l : ℕ) (least : 2 ^ l ≤ t) (most : t < 2 * 2 ^ w) where
  short : l ≤ w
  short =
      let n : l < w + 1 = lt_of_not-le (λ (g : w + 1 ≤ l). not-le_of_lt most (le_trans (omega (arith, pow-add 2 w 1)) (le_trans (pow_mono g) least))) in
      omega arith

  powers : (a b c : ℕ) → a + b ≡ c → 2 ^ a * 2 ^ b ≡ 2 ^ c
  powers a b c e = sym (pow-add 2 a b) ∙ ap (λ (x : ℕ). 2 ^ x) e

  shifted : (a : ℕ) → t < 2 * 2 ^ l → w ≤ 52 → w ≤ a → (q : ℕ) → q ≡ t * 2 ^ (w - l) % 2 ^ 64
      → (q * 2 ^ (a - (w - l)) ≡ t * 2 ^ a) × (2 ^ w ≤ q) × (q < 2 * 2 ^ w)
  shifted a next W A q is =
      let s = w - l in
      let L = short in
      let p : 2 ^ l * 2 ^ s ≡ 2 ^ w = powers l s w (omega arith) in
      let low : 2 ^ l * 2 ^ s ≤ t * 2 ^ s = mul-le-mul_right (2 ^ s) least in
      let high : t * 2 ^ s < 2 * 2 ^ l * 2 ^ s = mul-lt-mul_of_pos_right next (pow_pos s) in
      let high' : t * 2 ^ s < 2 * 2 ^ w = rw (mul_assoc 2 (2 ^ l) (2 ^ s), p) at high in
      let m : 2 ^ w ≤ 2 ^ 52 = pow_mono W in
      let e : q ≡ t * 2 ^ s = omega (arith, is, high', m) in (
        ap (λ (x : ℕ). x * 2 ^ (a - s)) e ∙ mul_assoc t (2 ^ s) (2 ^ (a - s)) ∙ ap (λ (x : ℕ). t * x) (powers s (a - s) a (omega arith)),
        omega (arith, low, p, e),
        omega (arith, high', e),
      )

pub overflow_sub-shift : goal.overflow_sub-shift
overflow_sub-shift c = rw c.from.ensures (short c.args.t c.args.w c.ilog2.result c.ilog2.ensures.power_le c.requires.1)

pub returns : goal.returns
returns c =
    let a = c.args in
    let i = c.ilog2 in
    let l : c.from.result ≤ a.w = overflow_sub-shift c in
    let k = shifted a.t a.w i.result i.ensures.power_le c.requires.1 a.a i.ensures.next_power_gt c.requires.2 c.requires.3
    (a.t * 2 ^ (a.w - i.result) % 2 ^ 64) refl in
    (rw c.from.ensures k.0, rw c.from.ensures k.1, rw c.from.ensures k.2, omega arith, omega (arith, l))
