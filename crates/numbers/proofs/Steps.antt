-- How a proof goes by a test whose failure is a return. Assumes nothing.
use Rattle.std.proofs.Common.{◌≡◌, Bool, true, false, not, ◌&&◌, sym, ◌∙◌}
use borrow.Author.Tests.{not-true, not-false}
use Rattle.numbers.specs.Notation.{if_then}
use Rattle.numbers.proofs.Choices.{taken, left}

pub both : {a b t u : Bool} → a ≡ t → b ≡ u → (a && b) ≡ (t && u)
both p q = rw (p, q)

module _ {A : Type 0} {r : A} where
  -- b is what the code found of the test t: `if !b { return .. }`
  pub passed : {b t : Bool} {x : A} (y : A) → b ≡ t → not b ≡ false → r ≡ x → r ≡ if_then t x y
  passed {b} y e h q = taken y (sym e ∙ not-false b h) q

  pub turned_away : {b t : Bool} {y : A} (x : A) → b ≡ t → not b ≡ true → r ≡ y → r ≡ if_then t x y
  turned_away {b} x e h q = left x (sym e ∙ not-true b h) q
