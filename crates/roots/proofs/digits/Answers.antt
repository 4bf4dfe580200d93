use Rattle.std.proofs.Common.{◌≡◌, ℕ, ◌+◌, ◌*◌, ◌/◌, ◌%◌, ◌^◌, ◌<◌, ap, ◌∙◌, mul_comm, arith, pow-add}
use lib.Bits.{bit_and, and_mask}
use Rattle.numbers.proofs.Word.{below_pow}
use Rattle.roots.proofs.digits.Goals as goal

four : (d : ℕ) → 2 ^ (2 * (d + 1)) ≡ 4 * 2 ^ (2 * d)
four d = ap (λ (x : ℕ). 2 ^ x) (twice d) ∙ pow-add 2 2 (2 * d)
  where
    twice : (d : ℕ) → 2 * (d + 1) ≡ 2 + 2 * d
    twice d = omega arith

doubled : (d : ℕ) → 2 ^ (d + 1) ≡ 2 * 2 ^ d
doubled d = pow-add 2 d 1 ∙ mul_comm (2 ^ d) 2

next_left : (l : ℕ) → bit_and l 0xf_ffff_ffff_ffff * 4 % 2 ^ 64 ≡ l % 2 ^ 52 * 4
next_left l = ap (λ (x : ℕ). x * 4 % 2 ^ 64) (and_mask l 52) ∙ small (l % 2 ^ 52) (omega arith)
  where
    small : (x : ℕ) → x < 2 ^ 52 → x * 4 % 2 ^ 64 ≡ x * 4
    small x h = omega arith

step : (a b l m x y l' : ℕ) → a * 2 ^ 54 + l ≡ m * x → b ≡ 4 * a + l / 2 ^ 52 → l' ≡ l % 2 ^ 52 * 4 → y ≡ 4 * x → b * 2 ^ 54 + l' ≡ m * y
step a b l m x y l' i e f g = rw (e, f, g) (omega arith)

pub digit-r-requires : goal.digit-r-requires
digit-r-requires c = (
  c.loop-d.invariant.1,
  below_pow c.loop-d.r.q c.loop-d.d 53 c.loop-d.invariant.2 (omega arith),
  omega arith,
)

pub loop-d-preserved : goal.loop-d-preserved
loop-d-preserved c =
    let r = c.loop-d.r in
    let l = c.loop-d.left in
    let d = c.loop-d.d in
    let n = c.digit-r.result in (
      step (r.q * r.q + r.rest) (n.q * n.q + n.rest) l c.args.m (2 ^ (2 * d)) (2 ^ (2 * (d + 1))) (bit_and l 0xf_ffff_ffff_ffff * 4 % 2 ^ 64)
          c.loop-d.invariant.0
          c.digit-r.ensures.0
          (next_left l)
          (four d),
      c.digit-r.ensures.1,
      omega (arith, doubled d, c.digit-r.ensures.2, c.loop-d.invariant.2),
      omega (arith, next_left l),
    )

last : (a l m : ℕ) → a * 2 ^ 54 + l ≡ m * 2 ^ 54 → l < 2 ^ 54 → a ≡ m
last a l m h k = omega arith

pub returns : goal.returns
returns c =
    let r = c.loop-d.r in
    let e : c.loop-d.d ≡ 27 = omega arith in (
      last (r.q * r.q + r.rest) c.loop-d.left c.args.m
          (c.loop-d.invariant.0 ∙ ap (λ (x : ℕ). c.args.m * 2 ^ (2 * x)) e)
          c.loop-d.invariant.3,
      c.loop-d.invariant.1,
    )
