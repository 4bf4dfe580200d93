use mathlib.Core.Path.{◌≡◌, ◌∙◌, ap}
use mathlib.Core.List.{List}
use Prim.Native.Nat.{ℕ, suc, ◌+◌, ◌-◌, ◌<◌}
use native.Mathlib.Omega.{arith}
use lib.Ieee.{Float}
use Rattle.numbers.specs.Notation.{◌⧄◌}
use Rattle.solve.specs.forms.Profile.{step_of, root_of, next_below, less_below, back_from}
use Rattle.solve.proofs.System.back_from.Goals as goal

turn : (w : List Float) (n : ℕ) (f : List ℕ) (i : ℕ) (s t : Float) (k : ℕ) → i < k → s ≡ less_below w n f i (step_of w n i) (k - (i + 1)) → t ≡ next_below w n f i s k
    → t ≡ less_below w n f i (step_of w n i) (k + 1 - (i + 1))
unfolding less_below
turn w n f i s t k h e g =
    let a : k + 1 - (i + 1) ≡ suc (k - (i + 1)) = omega arith in
    let b : i + 1 + (k - (i + 1)) ≡ k = omega arith in
    rw (a, b, ← e) g

pub loop-k-init : goal.loop-k-init
unfolding less_below
loop-k-init c = let i = c.args.i in let z : i + 1 - (i + 1) ≡ 0 = omega arith in rw (z, c.requires.1)

pub loop-k-preserved : goal.loop-k-preserved
loop-k-preserved c =
    let s = c.args.self.now in
    turn s.w.now s.n s.f c.args.i c.loop-k.s c.next_below-s.result c.loop-k.k (omega arith) c.loop-k.invariant c.next_below-s.ensures

pub returns : goal.returns
unfolding back_from
returns c =
    let s = c.args.self.now in
    let i = c.args.i in
    let e : c.loop-k.k ≡ s.n = omega arith in
    ap (λ (v : Float). v ⧄ root_of s.w.now s.n i) (c.loop-k.invariant ∙ ap (λ (k : ℕ). less_below s.w.now s.n s.f i (step_of s.w.now s.n i) (k - (i + 1))) e)
