use borrow.Author.Rules.{rules}
use mathlib.Core.Path.{sym}
use lib.Dec.{T}
use lib.Seq.{length-take-le}
use lib.Ieee.{binary32, fits}
use Rattle.sparse_pgo.proofs.Sizes.{half_fits, half_within}
use Rattle.sparse_pgo.proofs.Looping.{turning_begin, turning_few, turning_on, turning_less, turning_over}
use Rattle.sparse_pgo.proofs.Running.{counts_fit, start_bad, start_goes}
use Rattle.sparse_pgo.proofs.started.Goals as goal

pub overflow_mul-half : goal.overflow_mul-half
overflow_mul-half c = half_fits c.requires.0.sized

pub slice_bounds-active_total_squared_residual_cost-end : goal.slice_bounds-active_total_squared_residual_cost-end
slice_bounds-active_total_squared_residual_cost-end c = half_within _ _ c.requires.0.double

pub slice_bounds-active_total_squared_residual_cost-end-2 : goal.slice_bounds-active_total_squared_residual_cost-end-2
slice_bounds-active_total_squared_residual_cost-end-2 c = sym (length-take-le _ _ (half_within _ _ c.requires.0.double))

pub loop-t-init : goal.loop-t-init
loop-t-init c =
    let is-f32 : T (fits binary32 c.args.setup.settings.damping) = search rules in
    turning_begin c.begin-s.ensures c.requires.0 c.requires.1 (is-f32)

pub one_turn-requires : goal.one_turn-requires
one_turn-requires c = let h = c.loop-t.invariant in record { lent = (h.lent, turning_few h); at_top = h.holds }

pub loop-t-smaller : goal.loop-t-smaller
loop-t-smaller c = turning_less c.loop-t.invariant c.one_turn.ensures c.in-On.is

pub loop-t-preserved : goal.loop-t-preserved
loop-t-preserved c = turning_on c.loop-t.invariant c.one_turn.ensures c.in-On.is c.one_turn.auto.w64

pub overflow_add-t : goal.overflow_add-t
overflow_add-t c =
    let is-f32 : T (fits binary32 c.args.setup.settings.damping) = search rules in
    record { fits = counts_fit c.requires.1 (is-f32) (turning_over c.loop-t.invariant c.one_turn.ensures c.in-Over.is) }

pub returns-in-Over : goal.returns-in-Over
returns-in-Over c =
    start_goes _ _ c.args.w64.now c.active_total_squared_residual_cost-found.ensures c.in-Ok.is
    (turning_over c.loop-t.invariant c.one_turn.ensures c.in-Over.is) c.answer_of.ensures

pub returns : goal.returns
returns c = start_bad _ _ _ c.active_total_squared_residual_cost-found.ensures c.in-Err.is
