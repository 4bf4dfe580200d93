-- `scans::put_edge` meets its contract: eight numbers copied over the part that is an edge's. Assumes nothing.
use mathlib.Core.Path.{refl, ap, sym}
use Prim.Native.Nat.{◌*◌}
use lib.ListN.{length}
use Rattle.slices.proofs.Laws.{copied_within}
use Rattle.scans.proofs.put_edge.Goals as goal

pub slice_bounds-copy-end : goal.slice_bounds-copy-end
slice_bounds-copy-end c = sym (ap length c.edge_numbers.ensures)

pub returns : goal.returns
returns c =
    copied_within (c.args.k * 8) 8 c.args.edges.now c.requires _ c.edge_numbers.ensures refl
    c.copy.ensures
