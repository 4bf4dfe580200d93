-- `roots::longer_root` meets its contract: the laws of `proofs/Lengthening.antt`, as no shift and no product here loses a digit. Assumes nothing.
use Rattle.std.proofs.Common.{◌≡◌, ℕ, ◌+◌, ◌-◌, ◌*◌, ◌/◌, ◌%◌, ◌^◌, ◌<◌, ◌≤◌, mod-lt, div-add-mod', div-mul-le_self, arith}
use Rattle.roots.specs.Roots.{NearestRoot}
use Rattle.roots.proofs.Rooting.{square_mono}
use Rattle.roots.proofs.Lengthening.{c_le, longer_stays, longer_up}
use Rattle.roots.proofs.longer_root.Goals as goal

-- the code's words
abbrev all : ℕ → ℕ
all over = over * 2 ^ 26 % 2 ^ 64

abbrev gained : ℕ → ℕ → ℕ
gained n over = all over / (n * 2)

record Sizes (n over : ℕ) : Type 0 where
  back : gained n over * (n * 2) ≤ all over
  gained_le : gained n over ≤ 2 ^ 26
  square_le : gained n over * gained n over ≤ 2 ^ 52

module _ (n over : ℕ) (L : 2 ^ 26 ≤ n) (U : n ≤ 2 ^ 27) (O : over ≤ 2 * n) where
  abbrev c : ℕ
  c = gained n over

  -- what the division leaves
  abbrev d : ℕ
  d = all over - c * (n * 2)

  abbrev excess : ℕ
  excess = (d + c) * 2 ^ 26 % 2 ^ 64

  abbrev q : ℕ
  q = n * 2 ^ 26 % 2 ^ 64 + c - 0x200_0000

  back_le : c * (n * 2) ≤ all over
  back_le = div-mul-le_self (all over) (n * 2)

  parts : c * (n * 2) + d ≡ over * (2 * 2 ^ 25)
  parts = omega (arith, back_le)

  d_lt : d < n * 2
  d_lt = let n_pos : 0 < n * 2 = omega arith in omega (arith, div-add-mod' (all over) (n * 2), mod-lt (all over) n_pos)

  c_small : c ≤ 2 ^ 26
  c_small = c_le n over (2 ^ 25) c d (omega arith) L O parts d_lt

  sized : Sizes n over
  sized = record {
    back = back_le;
    gained_le = c_small;
    square_le = square_mono c (2 ^ 26) c_small;
  }

  q_is : q + 2 ^ 25 ≡ n * (2 * 2 ^ 25) + c
  q_is = omega arith

  excess_is : excess ≡ (d + c) * (2 * 2 ^ 25)
  excess_is = omega (arith, d_lt, c_small)

  down : excess ≤ c * c + q + 0x4_0000_0000_0000 → (m : ℕ) → n * n + over ≡ m + n → NearestRoot (m * 2 ^ 52) q
  down h m x = longer_stays n over (2 ^ 25) c d (omega arith) L O parts d_lt m q q_is x (omega (arith, excess_is))

  up : c * c + q + 0x4_0000_0000_0000 < excess → (m : ℕ) → n * n + over ≡ m + n → NearestRoot (m * 2 ^ 52) (q + 1)
  up h m x = longer_up n over (2 ^ 25) c d (omega arith) L O parts d_lt m q q_is x (omega (arith, excess_is))

pub overflow_mul-excess : goal.overflow_mul-excess
overflow_mul-excess c =
    let sizes : Sizes c.args.r.n c.args.r.over = sized c.args.r.n c.args.r.over c.requires.0 c.requires.1 c.requires.2 in
    let k = sizes in omega arith

pub overflow_sub-excess : goal.overflow_sub-excess
overflow_sub-excess c =
    let sizes : Sizes c.args.r.n c.args.r.over = sized c.args.r.n c.args.r.over c.requires.0 c.requires.1 c.requires.2 in
    (sizes).back

pub overflow_add-excess : goal.overflow_add-excess
overflow_add-excess c =
    let sizes : Sizes c.args.r.n c.args.r.over = sized c.args.r.n c.args.r.over c.requires.0 c.requires.1 c.requires.2 in
    let k = sizes in omega arith

pub overflow_add-q : goal.overflow_add-q
overflow_add-q c =
    let sizes : Sizes c.args.r.n c.args.r.over = sized c.args.r.n c.args.r.over c.requires.0 c.requires.1 c.requires.2 in
    let k = sizes in omega arith

pub overflow_mul-c : goal.overflow_mul-c
overflow_mul-c c =
    let sizes : Sizes c.args.r.n c.args.r.over = sized c.args.r.n c.args.r.over c.requires.0 c.requires.1 c.requires.2 in
    let k = sizes in omega arith

pub overflow_add-c : goal.overflow_add-c
overflow_add-c c =
    let sizes : Sizes c.args.r.n c.args.r.over = sized c.args.r.n c.args.r.over c.requires.0 c.requires.1 c.requires.2 in
    let k = sizes in omega arith

pub overflow_add-c-2 : goal.overflow_add-c-2
overflow_add-c-2 c =
    let sizes : Sizes c.args.r.n c.args.r.over = sized c.args.r.n c.args.r.over c.requires.0 c.requires.1 c.requires.2 in
    let k = sizes in omega arith

pub overflow_add-result : goal.overflow_add-result
overflow_add-result c =
    let sizes : Sizes c.args.r.n c.args.r.over = sized c.args.r.n c.args.r.over c.requires.0 c.requires.1 c.requires.2 in
    let k = sizes in omega arith

pub returns-then-c-q : goal.returns-then-c-q
returns-then-c-q c = up c.args.r.n c.args.r.over c.requires.0 c.requires.1 c.requires.2 c.if-c-q.true

pub returns-else-c-q : goal.returns-else-c-q
returns-else-c-q c = down c.args.r.n c.args.r.over c.requires.0 c.requires.1 c.requires.2 c.if-c-q.false
