use mathlib.Core.Path.{◌≡◌, refl, ◌∙◌, ap}
use mathlib.Core.List.{List}
use Prim.Native.Nat.{ℕ, ◌+◌, ◌*◌}
use native.Mathlib.Numerals.{add-one}
use native.Mathlib.Omega.{arith}
use lib.Ieee.{Float}
use Rattle.solve.specs.forms.Profile.{cleared_at, cleared_rows}
use Rattle.solve.proofs.clear_rows.Goals as goal

turn : (w u v : List Float) (n i : ℕ) → u ≡ cleared_rows w n i → v ≡ cleared_at u (i * n) i → v ≡ cleared_rows w n (i + 1)
unfolding cleared_rows
turn w u v n i e h = rw (add-one i, ← e) h

pub loop-i-init : goal.loop-i-init
unfolding cleared_rows
loop-i-init c = (refl, refl)

pub loop-i-preserved : goal.loop-i-preserved
loop-i-preserved c =
    let a = c.args in
    (omega arith, turn a.w.now c.loop-i.w c.clear.new.w a.n c.loop-i.i c.loop-i.invariant.1 c.clear.ensures)

pub returns : goal.returns
returns c =
    let a = c.args in
    let e : c.loop-i.i ≡ a.n = omega arith in
    c.loop-i.invariant.1 ∙ ap (cleared_rows a.w.now a.n) e
