use Rattle.std.proofs.Common.{◌≡◌, ℕ, Bool, true, false, min, refl, ◌∙◌, arith}
use native.Mathlib.Nat.{min-eq_left, min-eq_right}
use borrow.Author.Tests.{ltb-true, ltb-false}
use lib.Dec.{ltb}
use Rattle.numbers.specs.Notation.{if_then}
use Rattle.numbers.proofs.Choices.{taken, left}
use Rattle.costs.specs.Stowed.{known_poses}
use Rattle.costs.proofs.known_poses.Goals as goal

smaller : (n m : ℕ) → min n m ≡ if_then (ltb n m) n m
smaller n m = go (ltb n m) refl
  where
    go : (b : Bool) → ltb n m ≡ b → min n m ≡ if_then (ltb n m) n m
    go true e = taken _ e (let l = ltb-true n m e in min-eq_left (omega arith))
    go false e = left _ e (min-eq_right (ltb-false n m e))

pub returns : goal.returns
unfolding known_poses
returns c = c.min.ensures ∙ smaller _ _
