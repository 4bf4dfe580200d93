use mathlib.Core.Path.{◌≡◌, refl, ◌∙◌, ap}
use native.Mathlib.Numerals.{add-one}
use native.Mathlib.Omega.{arith}
use Rattle.solve.specs.forms.Profile.{forward_from}
use Rattle.solve.proofs.System.forward.Goals as goal

pub loop-i-init : goal.loop-i-init
unfolding forward_from
loop-i-init c = ((refl, refl, refl), refl)

pub loop-i-preserved : goal.loop-i-preserved
unfolding forward_from
loop-i-preserved c =
    let v = c.loop-i.invariant in
    (v.0, rw (add-one, c.next_ahead.ensures, v.0.1, v.0.2, v.1))

pub returns-clause-value : goal.returns-clause-value
returns-clause-value c =
    let s = c.args.self.now in
    let e : c.loop-i.i ≡ s.n = omega arith in
    c.loop-i.invariant.1 ∙ ap (forward_from s.w.now s.n s.f) e
