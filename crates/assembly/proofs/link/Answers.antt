use Rattle.numbers.specs.declared.Failure.{Failure}
use Rattle.rotations.specs.Formats.{Transform}
use Rattle.std.specs.Prelude.{Result}
use mathlib.Core.Path.{refl, ap₂, ◌∙◌}
use Rattle.graph.specs.Lent.{edge_at}
use Rattle.residual.specs.EdgeParts.{linked_of}
use Rattle.assembly.proofs.Knowing.{base_known}
use Rattle.assembly.proofs.link.Goals as goal

pub returns : goal.returns
returns c =
    let a = c.args in
    let based = c.requires in
    let count = c.known_poses.ensures in
    c.linked_at.ensures
    ∙ ap₂ (λ (x y : Result Transform Failure). linked_of x y (edge_at a.edges.now a.k))
    (base_known a.poses.now a.known.now based count a.a refl)
    (base_known a.poses.now a.known.now based count a.b refl)
