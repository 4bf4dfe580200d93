use native.Mathlib.Omega.{arith}
use Rattle.additions.proofs.Fitting.{few, no_room, room_had, too_wide, too_far, last_test}
use Rattle.additions.proofs.block_fits.Goals as goal

pub returns-then-not-has_room : goal.returns-then-not-has_room
returns-then-not-has_room c = let a = c.args in no_room a.n a.dof a.b a.len c.has_room.ensures c.if-not-has_room.true-raw

pub returns-then-dof-gt6 : goal.returns-then-dof-gt6
returns-then-dof-gt6 c =
    let a = c.args in
    too_wide a.n a.dof a.b a.len c.has_room.ensures c.if-not-has_room.false-raw c.if-dof-gt6.true

pub returns-then-n-b : goal.returns-then-n-b
returns-then-n-b c =
    let a = c.args in
    too_far a.n a.dof a.b a.len c.has_room.ensures c.if-not-has_room.false-raw c.if-dof-gt6.false c.if-n-b.true

pub overflow_mul-result : goal.overflow_mul-result
overflow_mul-result c =
    let a = c.args in
    let room = room_had a.n a.dof a.b a.len c.has_room.ensures c.if-not-has_room.false-raw in
    omega (arith, few a.n a.b a.dof a.len room (omega arith) c.if-dof-gt6.false c.if-n-b.false)

pub overflow_add-result : goal.overflow_add-result
overflow_add-result c =
    let a = c.args in
    let room = room_had a.n a.dof a.b a.len c.has_room.ensures c.if-not-has_room.false-raw in
    omega (arith, few a.n a.b a.dof a.len room (omega arith) c.if-dof-gt6.false c.if-n-b.false)

pub returns : goal.returns
returns c =
    let a = c.args in
    last_test a.n a.dof a.b a.len c.has_room.ensures c.if-not-has_room.false-raw c.if-dof-gt6.false c.if-n-b.false
