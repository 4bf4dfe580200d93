use Rattle.std.proofs.Common.{◌≡◌, ℕ, ◌+◌, ◌-◌, ◌<◌, Bool, true, false, eqb, min, refl, sym, ◌∙◌, arith}
use native.Mathlib.Nat.{min-eq_left, min-eq_right}
use borrow.Author.Tests.{eqb-true, eqb-false}
use Rattle.numbers.specs.Notation.{if_then}
use Rattle.numbers.proofs.Choices.{taken, left}
use Rattle.decisions.specs.Run.{one_more}
use Rattle.decisions.proofs.one_more.Goals as goal

bounded : (n : ℕ) → n < 4294967296 → min (n + 1) 4294967295 ≡ if_then (eqb n 4294967295) n (n + 1)
bounded n l = go (eqb n 4294967295) refl
  where
    go : (b : Bool) → eqb n 4294967295 ≡ b → min (n + 1) 4294967295 ≡ if_then (eqb n 4294967295) n (n + 1)
    go true e = let s = eqb-true n 4294967295 e in taken _ e (min-eq_right (omega arith) ∙ sym s)
    go false e = let s = eqb-false n 4294967295 e in left _ e (min-eq_left (omega arith))

pub returns : goal.returns
unfolding one_more
returns c = c.saturating_add.ensures ∙ bounded _ c.ranges.n.fits
