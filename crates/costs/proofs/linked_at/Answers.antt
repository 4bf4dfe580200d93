use mathlib.Core.Path.{◌≡◌}
use Rattle.residual.specs.EdgeParts.{linked_of}
use Rattle.costs.proofs.linked_at.Goals as goal

pub returns : goal.returns
returns c =
    let linked : c.linked_of.result ≡ linked_of c.base_at-from.result c.base_at-to.result c.edge_at.result = c.linked_of.ensures in
    rw (linked, c.base_at-from.ensures, c.base_at-to.ensures, c.edge_at.ensures)
