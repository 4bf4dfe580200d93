-- The nearest root of a number, from that of its leading digits: it gains digits by one division. Assumes nothing.
use Rattle.std.proofs.Common.{◌≡◌, ℕ, ◌+◌, ◌*◌, ◌<◌, ◌≤◌, ap, le_trans, mul-le-mul_right, mul-le-mul_left, le_of_mul-le-mul_right, arith}
use Rattle.roots.specs.Roots.{NearestRoot}

-- over * (2 * h) divided by 2 * n is c, and d is left
module _ (n over h c d : ℕ) (H : 0 < h) (L : 2 * h ≤ n) (O : over ≤ 2 * n) (E : c * (n * 2) + d ≡ over * (2 * h)) (D : d < n * 2) where
  pub c_le : c ≤ 2 * h
  c_le =
      let n_pos : 0 < n * 2 = omega arith in
      let o : over * (2 * h) ≤ 2 * n * (2 * h) = mul-le-mul_right (2 * h) O in
      let l : c * (n * 2) ≤ 2 * h * (n * 2) = omega arith in
      le_of_mul-le-mul_right l n_pos

  -- m is n * n - n + over, and q is to be the root of m times the square of 2 * h
  module _ (m q : ℕ) (Q : q + h ≡ n * (2 * h) + c) (X : n * n + over ≡ m + n) where
    -- the square of the longer root is the number but for these
    square : m * (2 * h * (2 * h)) + c * c + h * h ≡ q * q + (d + c) * (2 * h)
    square =
        let e : (c * (n * 2) + d) * (2 * h) ≡ over * (2 * h) * (2 * h) = ap (λ (x : ℕ). x * (2 * h)) E in
        let x : (n * n + over) * (2 * h * (2 * h)) ≡ (m + n) * (2 * h * (2 * h)) = ap (λ (x : ℕ). x * (2 * h * (2 * h))) X in
        let s : (q + h) * (q + h) ≡ (n * (2 * h) + c) * (n * (2 * h) + c) = ap (λ (x : ℕ). x * x) Q in
        let t : (q + h) * (2 * h) ≡ (n * (2 * h) + c) * (2 * h) = ap (λ (x : ℕ). x * (2 * h)) Q in
        omega arith

    h_le : h * 1 ≤ h * h
    h_le = mul-le-mul_left h H

    c_square : c * c ≤ c * (2 * h)
    c_square = mul-le-mul_left c c_le

    n_large : 2 * h * (2 * h) ≤ n * (2 * h)
    n_large = mul-le-mul_right (2 * h) L

    c_small : c * (2 * h) ≤ n * (2 * h)
    c_small = mul-le-mul_right (2 * h) (le_trans c_le L)

    d_small : (d + 1) * (2 * h) ≤ n * 2 * (2 * h)
    d_small = let l : d + 1 ≤ n * 2 = omega arith in mul-le-mul_right (2 * h) l

    pub longer_stays : (d + c) * (2 * h) ≤ c * c + q + h * h → NearestRoot (m * (2 * h * (2 * h))) q
    longer_stays g = (omega (arith, square, h_le, c_square, n_large), omega (arith, square))

    pub longer_up : c * c + q + h * h < (d + c) * (2 * h) → NearestRoot (m * (2 * h * (2 * h))) (q + 1)
    longer_up g = (omega (arith, square), omega (arith, square, h_le, c_small, d_small))
