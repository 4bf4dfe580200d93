use Prim.Native.Nat.{◌+◌, ◌*◌, ◌<◌}
use native.Mathlib.Omega.{arith}
use lib.Arith.{digits_lt}
use borrow.Author.Tests.{lt-leb, le-leb}
use Rattle.additions.specs.Additions.{entry_added}
use Rattle.additions.proofs.System.add_entry.Goals as goal

pub returns-then-above-clause-value : goal.returns-then-above-clause-value
unfolding entry_added
returns-then-above-clause-value c =
    let a = c.args in
    rw (lt-leb a.col a.row c.if-above.true)

pub overflow_mul-col : goal.overflow_mul-col
overflow_mul-col c =
    let a = c.args in
    let z : a.col * a.self.now.n + a.row < a.self.now.n * a.self.now.n = digits_lt (omega arith) (omega arith) in
    omega arith

pub overflow_add-col : goal.overflow_add-col
overflow_add-col c =
    let a = c.args in
    let z : a.col * a.self.now.n + a.row < a.self.now.n * a.self.now.n = digits_lt (omega arith) (omega arith) in
    omega arith

pub add_to-requires : goal.add_to-requires
add_to-requires c =
    let a = c.args in
    let z : a.col * a.self.now.n + a.row < a.self.now.n * a.self.now.n = digits_lt (omega arith) (omega arith) in
    omega arith

pub returns-clause-value : goal.returns-clause-value
unfolding entry_added
returns-clause-value c =
    let a = c.args in
    rw (le-leb a.col a.row c.if-above.false, ← c.dot-v.ensures) c.add_to.ensures
