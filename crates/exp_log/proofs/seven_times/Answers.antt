use borrow.Author.Rules.{rules}
use native.Mathlib.Omega.{arith}
use native.Mathlib.Numerals.{add-one}
use mathlib.Core.Path.{◌≡◌, refl}
use Rattle.exp_log.specs.ExpLog.{squarings}
use Rattle.exp_log.proofs.seven_times.Goals as goal

pub loop-i-init : goal.loop-i-init
unfolding squarings
loop-i-init c = (search rules, refl)

pub loop-i-preserved : goal.loop-i-preserved
unfolding squarings
loop-i-preserved c = (search rules, rw (add-one, c.square-p.ensures, c.loop-i.invariant.1))

pub returns : goal.returns
returns c =
    let e : c.loop-i.i ≡ 7 = omega arith in
    rw e at c.loop-i.invariant.1
