use mathlib.Core.Path.{refl, ap, ◌∙◌}
use lib.Dec.{eqb}
use Rattle.numbers.specs.Notation.{if_then}
use Rattle.rotations.specs.Formats.{Vec3}
use Rattle.graph.specs.declared.Manifold.{Manifold}
use Rattle.graph.specs.declared.Manifold.TheVariants.{Se3, Gravity}
use Rattle.numbers.proofs.Steps.{passed, turned_away}
use Rattle.normal_system.specs.NormalSystem.{assembling, system_of}
use Rattle.exports.specs.Exported.{assemble_out}
use Rattle.exports.proofs.pgo_assemble.Goals as goal

pub returns-then-not-gravity-dof : goal.returns-then-not-gravity-dof
unfolding assemble_out
returns-then-not-gravity-dof c = turned_away _ refl c.if-not-gravity-dof.true-raw refl

pub returns : goal.returns
unfolding assemble_out
returns c =
    let a = c.args in
    passed _ refl c.if-not-gravity-dof.false-raw
    (c.assemble_alone.ensures
    ∙ ap (λ (m : Manifold). system_of (assembling m a.poses.now a.ends.now a.edges.now a.fixed.now a.work.now) a.work.now)
    (c.manifold_of-m.ensures ∙ ap (λ (g : Vec3). if_then (eqb a.dof 6) Se3 (Gravity g)) c.vec_from.ensures))
