use lib.ListN.{length-replicate}
use lib.Ieee.{binary32, of_bits}
use Rattle.assembly.proofs.add_all.Goals as goal

pub fill-requires : goal.fill-requires
fill-requires c = length-replicate 26624 (of_bits binary32 0)

pub add_edges-requires : goal.add_edges-requires
add_edges-requires c =
    let pre = c.requires in
    (record { size = pre.0; most = pre.1; whole = pre.2; ready = c.fill.ensures }, pre.3)

pub returns : goal.returns
returns c = c.add_edges.ensures
