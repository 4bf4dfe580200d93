-- `costs::put_cell` meets its contract: eight numbers copied over the part that is the cell. Assumes nothing.
use mathlib.Core.Path.{ap, sym, ◌∙◌}
use Prim.Native.Nat.{◌*◌}
use lib.ListN.{length}
use Rattle.slices.proofs.Laws.{copied_within}
use Rattle.costs.specs.Stowed.{with_cell}
use Rattle.costs.proofs.Stowing.{cell_length}
use Rattle.costs.proofs.put_cell.Goals as goal

pub slice_bounds-copy-end : goal.slice_bounds-copy-end
slice_bounds-copy-end c = sym (ap length c.eight_of.ensures ∙ cell_length c.args.x)

pub returns : goal.returns
unfolding with_cell
returns c =
    copied_within (c.args.e * 8) 8 c.args.l.now c.requires _ c.eight_of.ensures
    (cell_length c.args.x)
    c.copy.ensures
