-- `all` of a part of the work, said of its places. Assumes nothing.
use Rattle.std.proofs.Common.{◌≡◌, ◌+◌, ◌*◌, true, false, rules, tests, arith}
use Rattle.std.proofs.lemmas.Iterator.{cases_from_all, YieldsList-from_slice}
use Rattle.std.specs.Float.{float_is_finite}
use lib.Ieee.Scale.{finite}
use Rattle.solve.proofs.Parts.{part, part_every}
use Rattle.solve.proofs.System.is_finite.Goals as goal

pub returns : goal.returns
unfolding float_is_finite
returns c =
    let s = c.args.self.now in
    let x = s.n * s.n + s.n + s.n in
    part_every x s.n s.w.now (omega arith) finite c.all.result
    (cases_from_all _ _ _ (λ v. float_is_finite v ≡ true) (λ v. float_is_finite v ≡ false) c.all.ensures.ran (YieldsList-from_slice (part x s.n s.w.now) cc)
    (λ v q k. search (rules, tests))
    (λ v q k. search (rules, tests)))
