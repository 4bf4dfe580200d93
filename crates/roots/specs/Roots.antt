-- A float's square root rounded to a format, over the values of `lib.Ieee`: document 01, "Rotation arithmetic", square roots. It mirrors the `round` of that
-- library. Definitions only.
use Rattle.std.specs.Prelude.{ℕ, zero, suc, ◌+◌, ◌-◌, ◌*◌, ◌/◌, ◌^◌, ◌<◌, ◌≤◌, false, cond, nat_le, Float}
use Prim.Native.Nat.{compare}
use Rattle.std.specs.Float.{nan, inf, fin, Format, binary32, binary64}
use Rattle.std.specs.Float.Ieee.{prec, low, up, down, size, nearest, units}

-- r, or r + 1 where its square is no more than n
unfoldable pub grow : ℕ → ℕ → ℕ
grow n r = cond (nat_le (suc r * suc r) n) (suc r) r

-- the whole part of √n, for an n below 4 ^ d: twice that of n / 4, or one more
unfoldable pub whole_root : ℕ → ℕ → ℕ
unfolding grow
whole_root zero n = 0
whole_root (suc d) n = grow n (2 * whole_root d (n / 4))

-- The value of the format f that is nearest to √(num / den), for a den above 0: as `round`, with the root for the fraction.
-- In units of f's smallest value the root is √(n / den), with half as many digits before the point as n / den has.
-- Of these the format keeps `prec` and drops k. So the result is a multiple of 2 ^ k units: the whole part q of √(n / u),
-- moved up by one where √(n / u) is above q + 1 / 2, which is told from the squares.
unfoldable pub root : Format → ℕ → ℕ → Float
unfolding whole_root size units
root f num den =
    let n = num * 2 ^ (2 * low f) in
    let k = (size (n / den) + 1) / 2 - prec f in
    let u = den * 2 ^ (2 * k) in
    let q = whole_root (prec f) (n / u) in
    units f false (nearest q (compare (4 * n) ((2 * q + 1) * (2 * q + 1) * u))) k

-- the root of x, rounded once: √-0 is -0, and below 0 there is none
unfoldable pub rooted : Format → Float → Float
unfolding root
rooted f nan = nan
rooted f (inf s) = cond s nan (inf s)
rooted f (fin s zero e) = fin s zero e
rooted f (fin s (suc m) e) = cond s nan (root f (suc m * up e) (down e))

-- ---- at the two formats, as the definitions above this crate name them

abbrev pub root32 : Float → Float
root32 x = rooted binary32 x

abbrev pub root64 : Float → Float
root64 x = rooted binary64 x

-- ---- for the functions behind the roots; nothing above rests on it

-- r is the whole number nearest to √n, for an n above 0: n lies between the squares of r - 1 / 2 and r + 1 / 2, which are
-- no whole numbers, so that there are no ties
abbrev pub NearestRoot : ℕ → ℕ → Type 0
NearestRoot n r = (r * r < n + r) × (n ≤ r * r + r)
