use mathlib.Core.Path.{◌≡◌, refl, ◌∙◌}
use Prim.Native.Nat.{ℕ, ◌+◌, ◌*◌, ◌≤◌}
use native.Mathlib.Omega.{arith}
use borrow.Author.Rules.{rules}
use borrow.Author.Tests.{tests, lt-ltb, le-ltb}
use Rattle.std.proofs.lemmas.Iterator.{first_from_Range, serves_from_Range}
use Rattle.numbers.proofs.Choices.{taken, left}
use mathlib.Core.Bool.{Bool, true, false}
use Rattle.profile.specs.Starts.{start_of, plus_zero}
use Rattle.profile.specs.Layout.{hessian_of}
use Rattle.profile.proofs.Leading.{leading_found}
use Rattle.profile.proofs.Index.{before}
use Rattle.profile.proofs.first_in.Goals as goal

pub returns-then-n-i : goal.returns-then-n-i
unfolding start_of
returns-then-n-i c = left _ (le-ltb _ _ c.if-n-i.true) refl

pub find-requires-clause-callable : goal.find-requires-clause-callable
find-requires-clause-callable c =
    serves_from_Range (λ x q k. search rules)
    (λ x low high y e.
    let own : y.now * c.args.n + c.args.n ≤ c.args.n * c.args.n = before c.args.n y.now c.args.n (omega (arith, e)) in
    search (rules, own))

pub returns : goal.returns
unfolding start_of
returns c =
    let a = c.args in
    let t : ℕ → Bool = λ j. plus_zero (hessian_of a.w.now a.n a.i j) in
    taken _ (lt-ltb _ _ c.if-n-i.false)
    (c.unwrap_or.ensures ∙ leading_found t a.i c.find.result
    (first_from_Range _ _ _ _ (λ j. t j ≡ false) (λ j. t j ≡ true) c.find.ensures.ran
    (λ x q k. search (rules, tests))
    (λ x q k. search (rules, tests))))
