use Rattle.std.proofs.Common.{◌≡◌, length, min, refl, ◌∙◌, arith}
use native.Mathlib.Nat.{min-le_left, min-le_right}
use Rattle.slices.proofs.Laws.{copied_more, copied_whole_way}
use Rattle.slices.proofs.copy.Goals as goal

pub loop-i-init : goal.loop-i-init
loop-i-init g c = (refl, refl)

pub loop-i-preserved : goal.loop-i-preserved
loop-i-preserved g c =
    let n = length c.args.to.now in
    let m = length c.args.from.now in
    let e : c.min-i-end.result ≡ min n m = c.min-i-end.ensures in
    let a = min-le_left n m in
    let b = min-le_right n m in
    let s = c.loop-i.auto.to in
    copied_more c.args.from.now c.args.to.now c.loop-i.to c.loop-i.i c.index-from-i.result c.loop-i.invariant
    (omega (arith, c.loop-i-test.true)) (omega (arith, c.loop-i-test.true)) c.index-from-i.is

pub returns : goal.returns
returns g c =
    let last : c.loop-i.i ≡ c.min-i-end.result = omega (arith, c.loop-i-test.false, c.loop-i.auto.i-end) in
    copied_whole_way c.args.from.now c.args.to.now c.loop-i.invariant (last ∙ c.min-i-end.ensures)
