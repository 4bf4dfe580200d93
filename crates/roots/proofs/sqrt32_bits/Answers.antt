-- `roots::sqrt32_bits` meets its contract: 24 digits by `nearest_root`, and `exponent_halved` says where they stand. Assumes nothing.
use Rattle.std.proofs.Common.{◌≡◌, ℕ, ◌+◌, ◌*◌, ◌/◌, ◌%◌, ◌^◌, ◌≤◌, false, sym, refl, ap, ◌∙◌, subst, mul_assoc, mul_comm, arith, pow-add}
use lib.Ieee.{binary32, of_bits, of_fields}
use Rattle.roots.specs.Roots.{rooted, NearestRoot}
use Rattle.roots.proofs.Rooting.{shifted, shifted_lt, shifted_ge, in_place}
use Rattle.roots.proofs.sqrt32_bits.Goals as goal

pub nearest_root-r-requires : goal.nearest_root-r-requires
nearest_root-r-requires c =
    let q = c.exponent_halved-h.result.q in
    let o = c.exponent_halved-h.result.odd in
    let g = shifted_ge q 23 (23 + o) c.exponent_halved-h.ensures.0 c.exponent_halved-h.ensures.1 (omega arith) in
    (omega (arith, g), shifted_lt q 23 (23 + o) c.exponent_halved-h.ensures.0 c.exponent_halved-h.ensures.1 (omega arith), omega arith)

-- q << (23 + odd), as `exponent_halved` has it
handed : (q o : ℕ) → q * 2 ^ (23 + o) ≡ q * 2 ^ o * 2 ^ 23
handed q o = ap (λ (x : ℕ). q * x) (pow-add 2 23 o ∙ mul_comm (2 ^ 23) (2 ^ o)) ∙ sym (mul_assoc q (2 ^ o) (2 ^ 23))

pub overflow_add-result : goal.overflow_add-result
overflow_add-result c =
    let answer : let r = c.exponent_halved-h.result.k * 2 ^ 23 + c.nearest_root-r.result.n in (r ≤ 255 * 2 ^ 23) × (rooted binary32 (of_fields binary32 false (c.args.b / 2 ^ 23) (c.args.b % 2 ^ 23)) ≡ of_bits binary32 r) = let q = c.exponent_halved-h.result.q in
    let o = c.exponent_halved-h.result.odd in
    let k = c.exponent_halved-h.ensures in
    k.4 binary32 refl refl (omega arith) c.nearest_root-r.result.n
    (subst (λ (x : ℕ). NearestRoot x c.nearest_root-r.result.n) (shifted q 23 (23 + o) k.0 k.1 (omega arith) ∙ handed q o)
    c.nearest_root-r.ensures.0) in
    omega (arith, (answer).0, in_place c.exponent_halved-h.result.k 23 c.exponent_halved-h.ensures.3 (omega arith))

pub returns : goal.returns
returns c =
    let answer : let r = c.exponent_halved-h.result.k * 2 ^ 23 + c.nearest_root-r.result.n in (r ≤ 255 * 2 ^ 23) × (rooted binary32 (of_fields binary32 false (c.args.b / 2 ^ 23) (c.args.b % 2 ^ 23)) ≡ of_bits binary32 r) = let q = c.exponent_halved-h.result.q in
    let o = c.exponent_halved-h.result.odd in
    let k = c.exponent_halved-h.ensures in
    k.4 binary32 refl refl (omega arith) c.nearest_root-r.result.n
    (subst (λ (x : ℕ). NearestRoot x c.nearest_root-r.result.n) (shifted q 23 (23 + o) k.0 k.1 (omega arith) ∙ handed q o)
    c.nearest_root-r.ensures.0) in
    let a = answer in
    let p = in_place c.exponent_halved-h.result.k 23 c.exponent_halved-h.ensures.3 (omega arith) in
    (omega (arith, a.0, p), a.1 ∙ ap (λ (x : ℕ). of_bits binary32 (x + c.nearest_root-r.result.n)) (sym p))
