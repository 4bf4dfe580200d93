use mathlib.Core.Path.{◌≡◌, sym}
use lib.Seq.{length-take-le}
use Rattle.decisions.specs.Run.{solved}
use Rattle.sparse_pgo.proofs.Sizes.{half_fits, half_within}
use Rattle.sparse_pgo.proofs.Turning.{turn_stop, turn_go}
use Rattle.sparse_pgo.proofs.one_turn.Goals as goal

pub overflow_mul-half : goal.overflow_mul-half
overflow_mul-half c = half_fits c.requires.lent.0.sized

pub slice_bounds-pass_top-end : goal.slice_bounds-pass_top-end
slice_bounds-pass_top-end c = half_within _ _ c.requires.lent.0.double

pub slice_bounds-pass_top-end-2 : goal.slice_bounds-pass_top-end-2
slice_bounds-pass_top-end-2 c = sym (length-take-le _ _ (half_within _ _ c.requires.lent.0.double))

pub pass_top-requires : goal.pass_top-requires
pass_top-requires c = let p = c.requires in record { sized = (p.lent.0.sized, p.lent.0.single); at_top = p.at_top }

pub attempt-o-requires : goal.attempt-o-requires
attempt-o-requires c =
    let l = c.requires.lent.0 in
    let t = c.pass_top.ensures in
    record { lent = record { sized = l.sized; single = t.long; double = l.double }; holds = t.holds c.in-None.is }

pub returns-in-Some : goal.returns-in-Some
returns-in-Some c = turn_stop c.args.w64.now c.pass_top.ensures c.in-Some.is

pub returns-in-None : goal.returns-in-None
returns-in-None c =
    let decided : let a = c.args in c.after_solve.result ≡ solved a.s a.setup.settings.limit a.setup.settings.cost_tolerance c.attempt-o.result = c.after_solve.ensures in
    turn_go c.args.w64.now c.pass_top.ensures c.requires.lent.1 c.in-None.is c.attempt-o.ensures (decided)
