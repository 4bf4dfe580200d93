use mathlib.Core.Path.{◌≡◌, refl, sym, ◌∙◌, ap}
use Prim.Native.Nat.{suc, ◌-◌}
use native.Mathlib.Omega.{arith}
use Rattle.solve.specs.forms.Profile.{backward_from}
use Rattle.solve.proofs.System.backward.Goals as goal

pub loop-i-init : goal.loop-i-init
loop-i-init c = ((refl, refl, refl), refl)

pub loop-i-preserved : goal.loop-i-preserved
unfolding backward_from
loop-i-preserved c =
    let v = c.loop-i.invariant in
    let s = c.args.self.now in
    let e : c.loop-i.i ≡ suc (c.loop-i.i - 1) = omega arith in
    (v.0, v.1 ∙ ap (backward_from c.loop-i.self.w.now s.n s.f) e ∙ rw (c.back_from.ensures, v.0.1, v.0.2))

pub returns-clause-value : goal.returns-clause-value
unfolding backward_from
returns-clause-value c =
    let s = c.args.self.now in
    let e : c.loop-i.i ≡ 0 = omega arith in
    sym (c.loop-i.invariant.1 ∙ ap (backward_from c.loop-i.self.w.now s.n s.f) e)
