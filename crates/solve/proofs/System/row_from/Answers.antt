use mathlib.Core.Path.{◌≡◌, refl, ◌∙◌, ap}
use mathlib.Core.List.{List}
use Prim.Native.Nat.{ℕ, suc, ◌+◌, ◌-◌, ◌*◌, ◌≤◌}
use native.Mathlib.Omega.{arith}
use lib.ListN.{set}
use lib.Ieee.{Float}
use Rattle.profile.specs.Starts.{first_of}
use Rattle.solve.specs.forms.Profile.{next_entry, row_from}
use Rattle.solve.proofs.System.row_from.Goals as goal

turn : (w : List Float) (n m : ℕ) (f g : List ℕ) (i s j : ℕ) (u : List Float) (x : Float) → m ≡ n → g ≡ f → s ≡ first_of f i → s ≤ j → u ≡ row_from w n f i (j - s) → x ≡ next_entry u m g i j s
    → set u (i * n + j) x ≡ row_from w n f i (j + 1 - s)
unfolding row_from
turn w n m f g i s j u x en ef at h e new =
    let a : j + 1 - s ≡ suc (j - s) = omega arith in
    let b : first_of f i + (j - s) ≡ j = omega arith in
    rw (a, b, ← e, new, en, ef, at)

pub loop-j-init : goal.loop-j-init
unfolding row_from
loop-j-init c =
    let s = c.args.s in
    let z : s - s ≡ 0 = omega arith in
    (omega arith, (refl, refl, refl), rw z)

pub loop-j-preserved : goal.loop-j-preserved
loop-j-preserved c =
    let a = c.args in
    let t = c.loop-j.self in
    let v = c.loop-j.invariant in (
      omega arith,
      v.1,
      turn a.self.now.w.now a.self.now.n t.n a.self.now.f t.f a.i a.s c.loop-j.j t.w.now c.next_entry.result v.1.1 v.1.2 c.requires.1 (omega arith) v.2 c.next_entry.ensures,
    )

pub returns-clause-value : goal.returns-clause-value
returns-clause-value c =
    let a = c.args in
    let e : c.loop-j.j - a.s ≡ a.i - a.s = omega arith in
    c.loop-j.invariant.2 ∙ ap (row_from a.self.now.w.now a.self.now.n a.self.now.f a.i) e
