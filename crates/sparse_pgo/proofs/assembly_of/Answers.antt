use Rattle.std.specs.Prelude.{Err}
use mathlib.Core.Path.{ap, ◌∙◌}
use Rattle.sparse_pgo.proofs.Sizes.{gradient_before, gradient_bytes, gradient_fits, rows_fit, step_fits, step_within}
use Rattle.sparse_pgo.proofs.Assembling.{assembly_bad, assembly_short, assembly_flat, assembly_steep}
use Rattle.sparse_pgo.proofs.assembly_of.Goals as goal

pub overflow_mul-from : goal.overflow_mul-from
overflow_mul-from c = rows_fit c.requires.0

pub overflow_add-from : goal.overflow_add-from
overflow_add-from c = gradient_fits c.requires.0

pub overflow_add-to : goal.overflow_add-to
overflow_add-to c = step_fits c.requires.0

pub offset_bounds-w32-from : goal.offset_bounds-w32-from
offset_bounds-w32-from c = gradient_bytes c.requires.0

pub slice_bounds-l2_norm-count : goal.slice_bounds-l2_norm-count
slice_bounds-l2_norm-count c = gradient_before _

pub slice_bounds-l2_norm-start : goal.slice_bounds-l2_norm-start
slice_bounds-l2_norm-start c = gradient_before _

pub slice_bounds-l2_norm-end : goal.slice_bounds-l2_norm-end
slice_bounds-l2_norm-end c = step_within _ _ c.requires.1

pub returns-in-BadEdge : goal.returns-in-BadEdge
returns-in-BadEdge c = assembly_bad c.args.setup c.args.w32.now (c.in-Err.is ∙ ap Err c.in-BadEdge.is)

pub returns-in-Short : goal.returns-in-Short
returns-in-Short c = assembly_short c.args.setup c.args.w32.now (c.in-Err.is ∙ ap Err c.in-Short.is)

pub returns-then-norm-from : goal.returns-then-norm-from
returns-then-norm-from c = assembly_flat c.args.setup c.args.w32.now c.requires.1 c.in-Ok.is c.l2_norm-norm.ensures c.from.ensures c.if-norm-from.true

pub returns-else-norm-from : goal.returns-else-norm-from
returns-else-norm-from c = assembly_steep c.args.setup c.args.w32.now c.requires.1 c.in-Ok.is c.l2_norm-norm.ensures c.from.ensures c.if-norm-from.false
