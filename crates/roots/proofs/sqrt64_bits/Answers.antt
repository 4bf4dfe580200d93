-- `roots::sqrt64_bits` meets its contract: 27 digits by `nearest_root`, 53 by `longer_root`, and `exponent_halved` says where they stand. Assumes nothing.
use Rattle.std.proofs.Common.{◌≡◌, ℕ, ◌+◌, ◌*◌, ◌/◌, ◌%◌, ◌^◌, ◌<◌, ◌≤◌, false, sym, refl, ap, ◌∙◌, subst, arith}
use lib.Ieee.{binary64, of_bits, of_fields}
use Rattle.roots.specs.Roots.{rooted, NearestRoot}
use Rattle.roots.proofs.Rooting.{near_le, near_ge, shifted, shifted_lt, shifted_ge, in_place}
use Rattle.roots.proofs.sqrt64_bits.Goals as goal

pub nearest_root-r-requires : goal.nearest_root-r-requires
nearest_root-r-requires c =
    let q = c.exponent_halved-h.result.q in
    let o = c.exponent_halved-h.result.odd in
    let g = shifted_ge q 52 o c.exponent_halved-h.ensures.0 c.exponent_halved-h.ensures.1 (omega arith) in
    (omega (arith, g), shifted_lt q 52 o c.exponent_halved-h.ensures.0 c.exponent_halved-h.ensures.1 (omega arith), omega arith)

-- how large the nearest root and what is over can be
sizes : (m n over : ℕ) → 2 ^ 52 ≤ m → m < 2 ^ 54 → NearestRoot m n → n * n + over ≡ m + n → (2 ^ 26 ≤ n) × (n ≤ 2 ^ 27) × (over ≤ 2 * n)
sizes m n over lo hi N e = (near_ge m (2 ^ 26) n lo N, near_le m (2 ^ 27) n hi N, omega arith)

pub longer_root-requires : goal.longer_root-requires
longer_root-requires c =
    let q = c.exponent_halved-h.result.q in
    let o = c.exponent_halved-h.result.odd in
    sizes (q * 2 ^ o % 2 ^ 64) c.nearest_root-r.result.n c.nearest_root-r.result.over
    (shifted_ge q 52 o c.exponent_halved-h.ensures.0 c.exponent_halved-h.ensures.1 (omega arith))
    (shifted_lt q 52 o c.exponent_halved-h.ensures.0 c.exponent_halved-h.ensures.1 (omega arith))
    c.nearest_root-r.ensures.0 c.nearest_root-r.ensures.1

pub overflow_add-result : goal.overflow_add-result
overflow_add-result c =
    let answer : let r = c.exponent_halved-h.result.k * 2 ^ 52 + c.longer_root.result in (r ≤ 2047 * 2 ^ 52) × (rooted binary64 (of_fields binary64 false (c.args.b / 2 ^ 52) (c.args.b % 2 ^ 52)) ≡ of_bits binary64 r) = let q = c.exponent_halved-h.result.q in
    let o = c.exponent_halved-h.result.odd in
    let k = c.exponent_halved-h.ensures in
    k.4 binary64 refl refl (omega arith) c.longer_root.result
    (subst (λ (x : ℕ). NearestRoot (x * 2 ^ 52) c.longer_root.result) (shifted q 52 o k.0 k.1 (omega arith))
    (c.longer_root.ensures (q * 2 ^ o % 2 ^ 64) c.nearest_root-r.ensures.1)) in
    omega (arith, (answer).0, in_place c.exponent_halved-h.result.k 52 c.exponent_halved-h.ensures.3 (omega arith))

pub returns : goal.returns
returns c =
    let answer : let r = c.exponent_halved-h.result.k * 2 ^ 52 + c.longer_root.result in (r ≤ 2047 * 2 ^ 52) × (rooted binary64 (of_fields binary64 false (c.args.b / 2 ^ 52) (c.args.b % 2 ^ 52)) ≡ of_bits binary64 r) = let q = c.exponent_halved-h.result.q in
    let o = c.exponent_halved-h.result.odd in
    let k = c.exponent_halved-h.ensures in
    k.4 binary64 refl refl (omega arith) c.longer_root.result
    (subst (λ (x : ℕ). NearestRoot (x * 2 ^ 52) c.longer_root.result) (shifted q 52 o k.0 k.1 (omega arith))
    (c.longer_root.ensures (q * 2 ^ o % 2 ^ 64) c.nearest_root-r.ensures.1)) in
    let a = answer in
    let p = in_place c.exponent_halved-h.result.k 52 c.exponent_halved-h.ensures.3 (omega arith) in
    (omega (arith, a.0, p), a.1 ∙ ap (λ (x : ℕ). of_bits binary64 (x + c.longer_root.result)) (sym p))
