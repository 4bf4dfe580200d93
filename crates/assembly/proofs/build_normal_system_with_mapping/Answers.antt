use Rattle.assembly.proofs.Edges.{unknowns, has_space, cleared_first, too_short, assembled_by, room_kept}
use Rattle.graph.proofs.Degrees.{dof_most}
use Rattle.graph.specs.Lent.{pose_at, links_lent}
use Rattle.profile.specs.Layout.{need}
use lib.ListN.{length}
use lib.Seq.{length-take-le}
use native.Mathlib.Omega.{arith}
use mathlib.Core.Path.{sym, ap}
use Prim.Native.Nat.{◌*◌}
use Rattle.assembly.proofs.build_normal_system_with_mapping.Goals as goal

pub overflow_mul-n : goal.overflow_mul-n
overflow_mul-n c =
    let a = c.args in
    omega (arith, unknowns c.dof.result a.links.free (rw c.dof.ensures (dof_most a.m)))

pub returns-then-not-has_room : goal.returns-then-not-has_room
returns-then-not-has_room c =
    let a = c.args in
    rw (← c.dof.ensures)
    (too_short a.m (c.dof.result * a.links.free) (links_lent a.links) (pose_at a.poses.now) a.w.now
    c.has_room.ensures c.if-not-has_room.true-raw)

pub overflow_add-n : goal.overflow_add-n
overflow_add-n c =
    let a = c.args in
    omega (arith, unknowns c.dof.result a.links.free (rw c.dof.ensures (dof_most a.m)))

pub overflow_mul-n-2 : goal.overflow_mul-n-2
overflow_mul-n-2 c =
    let a = c.args in
    let s = has_space (need (c.dof.result * a.links.free)) (length a.w.now) c.has_room.ensures c.if-not-has_room.false-raw in
    omega arith

pub slice_bounds-clear-end : goal.slice_bounds-clear-end
slice_bounds-clear-end c =
    let a = c.args in
    has_space (need (c.dof.result * a.links.free)) (length a.w.now) c.has_room.ensures c.if-not-has_room.false-raw

pub slice_bounds-clear-end-2 : goal.slice_bounds-clear-end-2
slice_bounds-clear-end-2 c =
    let a = c.args in
    sym (length-take-le (need (c.dof.result * a.links.free)) a.w.now
    (has_space (need (c.dof.result * a.links.free)) (length a.w.now) c.has_room.ensures c.if-not-has_room.false-raw))

pub add_all-requires : goal.add_all-requires
add_all-requires c =
    let a = c.args in
    let s = has_space (need (c.dof.result * a.links.free)) (length a.w.now) c.has_room.ensures c.if-not-has_room.false-raw in (
      ap (λ d. d * a.links.free) c.dof.ensures,
      omega arith,
      c.count_blocks.ensures,
      room_kept (c.dof.result * a.links.free) a.w.now
          (cleared_first (c.dof.result * a.links.free) a.w.now s c.clear.ensures) s,
    )

pub returns : goal.returns
returns c =
    let a = c.args in
    let s = has_space (need (c.dof.result * a.links.free)) (length a.w.now) c.has_room.ensures c.if-not-has_room.false-raw in
    rw (← c.dof.ensures)
    (assembled_by a.m (c.dof.result * a.links.free) (links_lent a.links) (pose_at a.poses.now) a.w.now
    c.has_room.ensures c.if-not-has_room.false-raw (cleared_first (c.dof.result * a.links.free) a.w.now s c.clear.ensures)
    c.add_all.ensures)
