-- Why `root` is the nearest value: the number r of units 2 ^ k that it writes has r - 1 / 2 ≤ √(n / u) ≤ r + 1 / 2, said with both sides doubled and squared.
-- No contract rests on this: it is here for the reader of `root`, and for the bound in `Bounded`. Assumes nothing.
use Rattle.std.proofs.Common.{◌≡◌, ℕ, zero, suc, ◌+◌, ◌-◌, ◌*◌, ◌/◌, ◌%◌, ◌^◌, ◌<◌, ◌≤◌, false, sym, refl, ap, ◌∙◌, subst, le_trans, le_of_eq, lt_of_lt_of_le, le_of_lt, mul-le-mul_right, mul_assoc, mul_comm, div-lt_iff_lt-mul, mul-pos, le-div_iff_mul-le, arith, pow_pos, pow_mono, pow-add}
use Prim.Native.Nat.{compare, Ordering}
use lib.Ieee.{Format, prec, low, size, nearest, units}
use lib.Ieee.Digits.{size-lt}
use Rattle.roots.specs.Roots.{whole_root, root}
use Rattle.numbers.proofs.Word.{Cmp, cmp}
use Rattle.roots.proofs.Rooting.{square_mono, whole_root_is}

-- r * √u is within half of √u of √n
abbrev pub Nearest : ℕ → ℕ → ℕ → Type 0
Nearest n u r = ((2 * r - 1) * (2 * r - 1) * u ≤ 4 * n) × (4 * n ≤ (2 * r + 1) * (2 * r + 1) * u)

low_side : (n u q : ℕ) → q * q * u ≤ n → (2 * q - 1) * (2 * q - 1) * u ≤ 4 * n
low_side n u q h = le_trans (mul-le-mul_right u (square_mono (2 * q - 1) (2 * q) (omega arith))) (omega arith)

high_side : (n u q : ℕ) → n < suc q * suc q * u → 4 * n ≤ (2 * suc q + 1) * (2 * suc q + 1) * u
high_side n u q h = omega arith

up_low : (n u q : ℕ) → (2 * q + 1) * (2 * q + 1) * u ≤ 4 * n → (2 * suc q - 1) * (2 * suc q - 1) * u ≤ 4 * n
up_low n u q h = subst (λ (x : ℕ). x * x * u ≤ 4 * n) (odd q) h
  where
    odd : (q : ℕ) → 2 * q + 1 ≡ 2 * suc q - 1
    odd q = omega arith

chosen : (n u q : ℕ) (o : Ordering) → Cmp o (4 * n) ((2 * q + 1) * (2 * q + 1) * u) → q * q * u ≤ n → n < suc q * suc q * u → Nearest n u (nearest q o)
chosen n u q Ordering.lt c a b = (low_side n u q a, le_of_lt c)
chosen n u q Ordering.gt c a b = (up_low n u q (le_of_lt c), high_side n u q b)
chosen n u q Ordering.eq c a b = tie (q % 2) (omega arith)
  where
    tie : (x : ℕ) → x < 2 → Nearest n u (q + x)
    tie zero l = subst (Nearest n u) (sym (plain q)) (low_side n u q a, le_of_eq c)
      where
        plain : (q : ℕ) → q + 0 ≡ q
        plain q = omega arith
    tie (suc zero) l = subst (Nearest n u) (sym (plain q)) (up_low n u q (le_of_eq (sym c)), high_side n u q b)
      where
        plain : (q : ℕ) → q + 1 ≡ suc q
        plain q = omega arith
    tie (suc (suc x)) l = absurd (no x l)
      where
        no : (x : ℕ) → suc (suc x) < 2 → ⊥
        no x l = omega arith

enough : (z p : ℕ) → z ≤ 2 * p + 2 * ((z + 1) / 2 - p)
enough z p = omega arith

pub root_is_nearest : (f : Format) (num den : ℕ) → 0 < den → (r : ℕ) × (k : ℕ) × (root f num den ≡ units f false r k) × Nearest (num * 2 ^ (2 * low f)) (den * 2 ^ (2 * k)) r
unfolding root
root_is_nearest f num den D =
    let n = num * 2 ^ (2 * low f) in
    let k = (size (n / den) + 1) / 2 - prec f in
    let u = den * 2 ^ (2 * k) in
    let U : 0 < u = mul-pos D (pow_pos (2 * k)) in
    let q = whole_root (prec f) (n / u) in
    let a : n < 2 ^ (2 * prec f + 2 * k) * den = (div-lt_iff_lt-mul D).0 (lt_of_lt_of_le (size-lt (n / den)) (pow_mono (enough (size (n / den)) (prec f)))) in
    let b : n < 2 ^ (2 * prec f) * u = lt_of_lt_of_le a (le_of_eq (ap (λ (x : ℕ). x * den) (pow-add 2 (2 * prec f) (2 * k)) ∙ mul_assoc (2 ^ (2 * prec f)) (2 ^ (2 * k)) den ∙ ap (λ (x : ℕ). 2 ^ (2 * prec f) * x) (mul_comm (2 ^ (2 * k)) den))) in
    let w = whole_root_is (prec f) (n / u) ((div-lt_iff_lt-mul U).1 b) in (
      nearest q (compare (4 * n) ((2 * q + 1) * (2 * q + 1) * u)),
      k,
      refl,
      chosen n u q (compare (4 * n) ((2 * q + 1) * (2 * q + 1) * u)) (cmp (4 * n) ((2 * q + 1) * (2 * q + 1) * u)) ((le-div_iff_mul-le U).0 w.0) ((div-lt_iff_lt-mul U).0 w.1),
    )
