-- `roots::nearest_by_digits` meets its contract: of a whole root that is above 0, what is left tells. Assumes nothing.
use Rattle.std.proofs.Common.{◌≡◌, ℕ, zero, suc, ◌+◌, ◌*◌, ◌^◌, ◌<◌, ◌≤◌, arith}
use Rattle.roots.proofs.Rooting.{square_lt}
use Rattle.roots.proofs.nearest_by_digits.Goals as goal

-- a whole root of a number of 54 digits has 27
short : (m q rest : ℕ) → m < 2 ^ 54 → q * q + rest ≡ m → q < 2 ^ 27
short m q rest h e = square_lt q (2 ^ 27) (omega arith)

pub overflow_add-result-else-r : goal.overflow_add-result-else-r
overflow_add-result-else-r c = omega (arith, short c.args.m c.digits-r.result.q c.digits-r.result.rest c.requires.1 c.digits-r.ensures.0)

-- of a number above 0 it is above 0
some : (m q rest : ℕ) → 0 < m → q * q + rest ≡ m → rest ≤ 2 * q → 0 < q
some m zero rest p e l = omega arith
some m (suc q) rest p e l = omega arith

pub returns-else-r : goal.returns-else-r
returns-else-r c =
    let p = some c.args.m c.digits-r.result.q c.digits-r.result.rest c.requires.0 c.digits-r.ensures.0 c.digits-r.ensures.1 in
    (omega arith, omega arith)
