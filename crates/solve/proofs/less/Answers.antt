use mathlib.Core.Path.{◌≡◌, ◌∙◌, ap}
use mathlib.Core.List.{List}
use Prim.Native.Nat.{ℕ, suc, ◌+◌, ◌-◌, ◌≤◌}
use native.Mathlib.Omega.{arith}
use lib.ListN.{get_or}
use lib.Ieee.{Float, nan}
use Rattle.numbers.specs.Notation.{◌⊟◌, ◌⊠◌}
use Rattle.solve.specs.Rule.{less}
use Rattle.solve.specs.forms.Profile.{less_at}
use Rattle.solve.proofs.less.Goals as goal

turn : (w : List Float) (v s : Float) (p q a k : ℕ) → a ≤ k → s ≡ less_at w v (p + a) (q + a) (k - a)
    → s ⊟ get_or w (p + k) nan ⊠ get_or w (q + k) nan ≡ less_at w v (p + a) (q + a) (k + 1 - a)
unfolding less
turn w v s p q a k h e =
    let x : k + 1 - a ≡ suc (k - a) = omega arith in
    let y : p + a + (k - a) ≡ p + k = omega arith in
    let z : q + a + (k - a) ≡ q + k = omega arith in
    rw (x, y, z, ← e)

pub loop-k-init : goal.loop-k-init
unfolding less
loop-k-init c = let a = c.args.a in let z : a - a ≡ 0 = omega arith in (omega arith, rw z)

pub loop-k-preserved : goal.loop-k-preserved
loop-k-preserved c =
    let a = c.args in
    (omega arith, turn a.w.now a.v c.loop-k.s a.p a.q a.a c.loop-k.k (omega arith) c.loop-k.invariant.1)

pub returns : goal.returns
returns c =
    let a = c.args in
    let e : c.loop-k.k - a.a ≡ a.m - a.a = omega arith in
    c.loop-k.invariant.1 ∙ ap (less_at a.w.now a.v (a.p + a.a) (a.q + a.a)) e
