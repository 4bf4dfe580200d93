use mathlib.Core.Path.{refl}
use Rattle.graph.specs.Lent.{links_lent}
use Rattle.residual.specs.declared.EdgeEndpoint.TheVariants.{A, B}
use Rattle.assembly.specs.Assembly.{edge_of}
use Rattle.assembly.proofs.Edges.{edge_added}
use Rattle.assembly.proofs.Knowing.{free_known, one_known, both_known}
use Rattle.assembly.proofs.add_edge.Goals as goal

pub link-linked-requires : goal.link-linked-requires
link-linked-requires c = c.requires.0.ready.bases

pub add_one-requires : goal.add_one-requires
add_one-requires c =
    let f = free_known c.requires.0 c.slot-sb.ensures c.in-Some-sb.is in
    (f.fits, f.below, f.len, f.shares, c.requires.1)

pub link-linked-requires-in-Some : goal.link-linked-requires-in-Some
link-linked-requires-in-Some c = c.requires.0.ready.bases

pub add_one-requires-in-None-sb-2 : goal.add_one-requires-in-None-sb-2
add_one-requires-in-None-sb-2 c =
    let f = free_known c.requires.0 c.slot-sa.ensures c.in-Some.is in
    (f.fits, f.below, f.len, f.shares, c.requires.1)

pub add_both-requires : goal.add_both-requires
add_both-requires c =
    let f = free_known c.requires.0 c.slot-sa.ensures c.in-Some.is in
    let g = free_known c.requires.0 c.slot-sb.ensures c.in-Some-sb-2.is in
    (f.fits, g.fits, f.below, g.below, f.len, f.shares, g.shares, c.requires.1)

pub returns-in-None-sb : goal.returns-in-None-sb
unfolding edge_of
returns-in-None-sb c = edge_added _ _ _ (links_lent c.args.links) _ _
    c.index_at-a.ensures c.index_at-b.ensures c.slot-sa.ensures c.slot-sb.ensures (rw (c.in-None.is, c.in-None-sb.is))

pub returns-in-Some-sb : goal.returns-in-Some-sb
unfolding edge_of
returns-in-Some-sb c =
    let a = c.args in
    edge_added _ _ _ (links_lent c.args.links) _ _
    c.index_at-a.ensures c.index_at-b.ensures c.slot-sa.ensures c.slot-sb.ensures
    (rw (c.in-None.is, c.in-Some-sb.is)
    (one_known a.shape.manifold a.shape.n a.poses.now a.known.now _ _ ((links_lent a.links).measured a.k) a.w.now
    c.link-linked.ensures B _ refl (free_known c.requires.0 c.slot-sb.ensures c.in-Some-sb.is) c.add_one.ensures))

pub returns-in-None-sb-2 : goal.returns-in-None-sb-2
unfolding edge_of
returns-in-None-sb-2 c =
    let a = c.args in
    edge_added _ _ _ (links_lent c.args.links) _ _
    c.index_at-a.ensures c.index_at-b.ensures c.slot-sa.ensures c.slot-sb.ensures
    (rw (c.in-Some.is, c.in-None-sb-2.is)
    (one_known a.shape.manifold a.shape.n a.poses.now a.known.now _ _ ((links_lent a.links).measured a.k) a.w.now
    c.link-linked-in-Some.ensures A _ refl (free_known c.requires.0 c.slot-sa.ensures c.in-Some.is) c.add_one-in-None-sb-2.ensures))

pub returns-in-Some-sb-2 : goal.returns-in-Some-sb-2
unfolding edge_of
returns-in-Some-sb-2 c =
    let a = c.args in
    edge_added _ _ _ (links_lent c.args.links) _ _
    c.index_at-a.ensures c.index_at-b.ensures c.slot-sa.ensures c.slot-sb.ensures
    (rw (c.in-Some.is, c.in-Some-sb-2.is)
    (both_known a.shape.manifold a.shape.n a.poses.now a.known.now _ _ ((links_lent a.links).measured a.k) a.w.now
    c.link-linked-in-Some.ensures (free_known c.requires.0 c.slot-sa.ensures c.in-Some.is) (free_known c.requires.0 c.slot-sb.ensures c.in-Some-sb-2.is) c.add_both.ensures))
