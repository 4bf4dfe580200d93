use mathlib.Core.Path.{◌∙◌, sym}
use Rattle.assembly.proofs.Walked.{links_fit}
use Rattle.graph.specs.Lent.{links_lent}
use Rattle.sparse_pgo.proofs.Sizes.{n_most}
use Rattle.sparse_pgo.proofs.Assembling.{assembled_made}
use Rattle.sparse_pgo.proofs.Turning.{top_again, top_limit, top_made}
use Rattle.sparse_pgo.proofs.pass_top.Goals as goal

pub returns-then-not-fresh : goal.returns-then-not-fresh
returns-then-not-fresh c = top_again _ _ _ _ c.requires.sized.1 c.if-not-fresh.true c.requires.at_top

pub returns-then-at_limit : goal.returns-then-at_limit
returns-then-at_limit c = top_limit _ _ _ _ c.requires.sized.1 c.if-not-fresh.false (sym c.at_limit.ensures ∙ c.if-at_limit.true)

pub assembly_of-a-requires : goal.assembly_of-a-requires
assembly_of-a-requires c = (n_most c.requires.sized.0, c.build_normal_system_with_mapping-made.auto.w ∙ c.requires.sized.1)

pub shape_of-w32 : goal.shape_of-w32
shape_of-w32 c = c.build_normal_system_with_mapping-made.auto.w

pub returns : goal.returns
returns c =
    let l = links_lent c.args.links in
    let fits = links_fit c.args.setup.manifold c.args.links in
    let m = assembled_made l c.args.poses.now c.args.w32.now c.requires.sized c.build_normal_system_with_mapping-made.ensures c.build_normal_system_with_mapping-made.auto.w c.assembly_of-a.ensures fits in
    top_made c.args.setup l c.args.s c.args.poses.now c.if-not-fresh.false m c.pass_top.ensures
