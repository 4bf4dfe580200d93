-- `roots::tested` meets its contract: what passes is nearest, and what is nearest passes. Assumes nothing.
use Rattle.std.proofs.Common.{◌≡◌, ℕ, ◌+◌, ◌-◌, ◌*◌, ◌%◌, ◌^◌, ◌<◌, ◌≤◌, refl, arith}
use Rattle.roots.specs.Roots.{NearestRoot}
use Rattle.roots.proofs.Rooting.{square_mono}
use Rattle.roots.proofs.tested.Goals as goal

square_small : (g : ℕ) → g ≤ 2 ^ 28 → g * g ≤ 2 ^ 56
square_small g = square_mono g (2 ^ 28)

pub overflow_mul-g : goal.overflow_mul-g
overflow_mul-g c = omega (arith, square_small c.args.g c.requires.1)

-- over, and over - 1, as they are wrapped
module _ (m g over less : ℕ) (M : m < 2 ^ 54) (G : g ≤ 2 ^ 28) (e : over ≡ (m + g + (2 ^ 64 - g * g)) % 2 ^ 64) (f : less ≡ (over + (2 ^ 64 - 1)) % 2 ^ 64) where
  -- what passes did not wrap
  passed : less < g * 2 → NearestRoot m g × (g * g + over ≡ m + g)
  passed l =
      let s = square_small g G in
      let o : over ≡ less + 1 = omega (arith, f, l, e) in
      let u : g * g + over ≡ m + g = omega (arith, s, o, e, l) in
      ((omega (arith, u, o), omega (arith, u, o, l)), u)

  -- what is nearest would have passed
  failed : g * 2 ≤ less → NearestRoot m g → ⊥
  failed l N =
      let s = square_small g G in
      let u : g * g + over ≡ m + g = omega (arith, s, e, N.0) in
      let v : over ≡ less + 1 = omega (arith, f, u, N.0) in
      omega (arith, u, v, l, N.1)

pub returns-then-over-g : goal.returns-then-over-g
returns-then-over-g c =
    let p = passed c.args.m c.args.g _ _ c.requires.0 c.requires.1 refl refl c.if-over-g.true in
    (refl, λ o. p, λ N. omega (arith, p.1, N.0))

pub returns-else-over-g : goal.returns-else-over-g
returns-else-over-g c = (
  refl,
  λ o. absurd (omega arith),
  λ N. absurd (failed c.args.m c.args.g _ _ c.requires.0 c.requires.1 refl refl c.if-over-g.false N),
)
