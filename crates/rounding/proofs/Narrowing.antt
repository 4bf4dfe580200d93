-- What an `f64`, by its fields, is as an `f32`: the law of each way through `narrow_bits`. Assumes nothing.
use Rattle.std.proofs.Common.{◌≡◌, ℕ, ◌+◌, ◌-◌, ◌*◌, ◌/◌, ◌%◌, ◌^◌, ◌<◌, ◌≤◌, min, Bool, cond, sym, refl, ap, ◌∙◌, subst, inl, inr, le_trans, eq-zero-or-pos, arith, pow_pos, shr_lt}
use Prim.Native.Nat.{compare}
use lib.Ieee.{Float, binary32, binary64, of_bits, of_fields}
use lib.Ieee.Fits.{nearest-le}
use lib.Ieee.Nearest.{closest}
use Rattle.rounding.specs.Rounding.{rounded}
use Rattle.numbers.proofs.Write.{round_bits, inf_bits}
use Rattle.rounding.proofs.Fractions.{rounded_at}
use Rattle.numbers.proofs.Read.{read_low, read_high, read_inf, scaled}
use Rattle.numbers.proofs.Word.{closest_zero, below_pow, rounded_by_carry}

-- the f32 with the sign s and the bits r
abbrev pub signed : Bool → ℕ → Float
signed s r = of_bits binary32 (cond s (2 ^ 31) 0 + r)

pub closest_le : (q p sh : ℕ) → q < 2 ^ (p + sh) → closest q (2 ^ sh) ≤ 2 ^ p
closest_le q p sh h = le_trans (nearest-le (q / 2 ^ sh) (compare (q % 2 ^ sh * 2) (2 ^ sh))) (shr_lt p sh h)

-- a normal f64: its significand cut by sh digits, into the field k
pub normal : (s : Bool) (e t sh k : ℕ) → 0 < e → e < 2047 → t < 2 ^ 52 → e - 1 + 149 + sh ≡ 1074 + k → 29 ≤ sh → (0 < k → sh ≡ 29)
    → rounded binary32 (of_fields binary64 s e t) ≡ signed s (min (k * 2 ^ 23 + closest (2 ^ 52 + t) (2 ^ sh)) 0x7f80_0000)
normal s e t sh k p h T a b g =
    rounded_at binary32 (of_fields binary64 s e t) s ((2 ^ 52 + t) * 2 ^ (e - 1)) (2 ^ 1074) (pow_pos 1074) (read_high binary64 s e t p h)
    ∙ round_bits binary32 s ((2 ^ 52 + t) * 2 ^ (e - 1)) (2 ^ 1074) (2 ^ 52 + t) sh k (pow_pos 1074)
    (scaled (2 ^ 52 + t) (e - 1) 149 sh 1074 k a)
    (below_pow (2 ^ 52 + t) 53 (24 + sh) (omega arith) (omega arith))
    (λ l. subst (λ (x : ℕ). 2 ^ (23 + x) ≤ 2 ^ 52 + t) (sym (g l)) (omega arith))

-- a value far below the least f32 is a zero
pub tiny : (s : Bool) (e t : ℕ) → e < 873 → t < 2 ^ 52 → rounded binary32 (of_fields binary64 s e t) ≡ signed s 0
tiny s e t h T = elim (eq-zero-or-pos e) [
  | inl z ↦
      ap (λ (x : ℕ). rounded binary32 (of_fields binary64 s x t)) z
      ∙ rounded_at binary32 (of_fields binary64 s 0 t) s (t * 2 ^ 0) (2 ^ 1074) (pow_pos 1074) (read_low binary64 s t)
      ∙ round_bits binary32 s (t * 2 ^ 0) (2 ^ 1074) t 925 0 (pow_pos 1074) (scaled t 0 149 925 1074 0 refl)
      (below_pow t 52 949 T (omega arith)) (λ l. absurd (none l))
      ∙ ap (λ (x : ℕ). signed s (min (0 * 2 ^ 23 + x) 0x7f80_0000)) (closest_zero t (2 ^ 925) (below_pow (t * 2) 53 925 (omega arith) (omega arith)))
  | inr p ↦
      normal s e t (926 - e) 0 p (omega arith) T (omega arith) (omega arith) (λ l. absurd (none l))
      ∙ ap (λ (x : ℕ). signed s (min (0 * 2 ^ 23 + x) 0x7f80_0000)) (closest_zero (2 ^ 52 + t) (2 ^ (926 - e)) (below_pow ((2 ^ 52 + t) * 2) 54 (926 - e) (omega arith) (omega arith)))
]
  where
    none : 0 < 0 → ⊥
    none l = omega arith

-- an f64 that is normal, and subnormal or a zero as an f32
pub fine : (s : Bool) (e t : ℕ) → 0 < e → e < 897 → t < 2 ^ 52 → rounded binary32 (of_fields binary64 s e t) ≡ signed s (closest (2 ^ 52 + t) (2 ^ (926 - e)))
fine s e t p h T =
    normal s e t (926 - e) 0 p (omega arith) T (omega arith) (omega arith) (λ l. absurd (none l))
    ∙ ap (signed s) (small (closest (2 ^ 52 + t) (2 ^ (926 - e))) (closest_le (2 ^ 52 + t) 24 (926 - e) (below_pow (2 ^ 52 + t) 53 (24 + (926 - e)) (omega arith) (omega arith))))
  where
    none : 0 < 0 → ⊥
    none l = omega arith

    small : (x : ℕ) → x ≤ 2 ^ 24 → min (0 * 2 ^ 23 + x) 0x7f80_0000 ≡ x
    small x h = omega arith

pub coarse : (s : Bool) (e t : ℕ) → 897 ≤ e → e < 2047 → t < 2 ^ 52
    → rounded binary32 (of_fields binary64 s e t) ≡ signed s (min ((e - 897) * 2 ^ 23 + closest (2 ^ 52 + t) (2 ^ 29)) 0x7f80_0000)
coarse s e t p h T = normal s e t 29 (e - 897) (omega arith) h T (omega arith) (omega arith) (λ l. refl)

pub infinite : (s : Bool) (e t : ℕ) → e ≡ 2047 → t ≡ 0 → rounded binary32 (of_fields binary64 s e t) ≡ signed s 0x7f80_0000
unfolding rounded
infinite s e t E Z = ap (rounded binary32) (read_inf binary64 s e t E Z) ∙ inf_bits binary32 s

-- ---- exponent and digits rounded as one number

-- whole units, an even number of them, stay as they are
pub even_units : (j x : ℕ) → closest (j * 2 ^ 52 + x) (2 ^ 29) ≡ j * 2 ^ 23 + closest x (2 ^ 29)
even_units j x =
    sym (rounded_by_carry (j * 2 ^ 52 + x) 29 (2 ^ 28) refl)
    ∙ ap (λ (b : ℕ). (j * 2 ^ 52 + x + (2 ^ 28 - 1) + b) / 2 ^ 29) (ap (λ (v : ℕ). v % 2) (quotient j x) ∙ parity j (x / 2 ^ 29))
    ∙ apart j x (x / 2 ^ 29 % 2)
    ∙ ap (λ (v : ℕ). j * 2 ^ 23 + v) (rounded_by_carry x 29 (2 ^ 28) refl)
  where
    quotient : (j x : ℕ) → (j * 2 ^ 52 + x) / 2 ^ 29 ≡ j * 2 ^ 23 + x / 2 ^ 29
    quotient j x = omega arith

    parity : (j v : ℕ) → (j * 2 ^ 23 + v) % 2 ≡ v % 2
    parity j v = omega arith

    apart : (j x b : ℕ) → (j * 2 ^ 52 + x + (2 ^ 28 - 1) + b) / 2 ^ 29 ≡ j * 2 ^ 23 + (x + (2 ^ 28 - 1) + b) / 2 ^ 29
    apart j x b = omega arith

-- the f64's bits with the f32's exponent
abbrev pub moved : ℕ → ℕ
moved m = m - 0x3800_0000_0000_0000

-- the two parts of the answer, as `coarse` has them
abbrev pub parts : ℕ → ℕ
parts m = (m / 2 ^ 52 - 897) * 2 ^ 23 + closest (2 ^ 52 + m % 2 ^ 52) (2 ^ 29)

pub whole : (m : ℕ) → 897 ≤ m / 2 ^ 52 → closest (moved m) (2 ^ 29) ≡ parts m
whole m h = ap (λ (x : ℕ). closest x (2 ^ 29)) (fields m h) ∙ even_units (m / 2 ^ 52 - 897) (2 ^ 52 + m % 2 ^ 52)
  where
    fields : (m : ℕ) → 897 ≤ m / 2 ^ 52 → moved m ≡ (m / 2 ^ 52 - 897) * 2 ^ 52 + (2 ^ 52 + m % 2 ^ 52)
    fields m h = omega arith
