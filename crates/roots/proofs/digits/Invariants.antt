-- `roots::digits` meets its contract. The invariant: with d digits made, q * q + rest and what is left of m are m * 4 ^ d,
-- as m's 54 digits go by two at a time. Assumes nothing.
use Rattle.std.proofs.Common.{◌≡◌, ◌+◌, ◌*◌, ◌^◌, ◌<◌, ◌≤◌}
use Rattle.roots.proofs.digits.Given as goal

abbrev pub invariant-loop-d : goal.invariant-loop-d
invariant-loop-d l =
    ((l.r.q * l.r.q + l.r.rest) * 2 ^ 54 + l.left ≡ l.m * 2 ^ (2 * l.d)) × (l.r.rest ≤ 2 * l.r.q) × (l.r.q < 2 ^ l.d) × (l.left < 2 ^ 54)
