-- `rounding::nearest_shift` meets its contract: what is added carries into the quotient just where it is to go up (`proofs/Word.antt` of numbers). Assumes nothing.
use Rattle.std.proofs.Common.{◌≡◌, ℕ, ◌+◌, ◌-◌, ◌*◌, ◌/◌, ◌%◌, ◌^◌, ◌≤◌, ap, ◌∙◌, arith, pow_pos, pow_mono}
use lib.Bits.{bit_and, and_mask}
use Rattle.numbers.proofs.Word.{two_halves, rounded_by_carry}
use Rattle.rounding.proofs.nearest_shift.Goals as goal

-- odd is at hand so that it may stand for the 1: such a slip (ties to odd) is refused for its answer, not for its range
pub overflow_sub-result : goal.overflow_sub-result
overflow_sub-result c =
    let half_is : 1 * 2 ^ (c.args.sh - 1) % 2 ^ 64 * 2 ≡ 2 ^ c.args.sh = two_halves c.args.sh c.requires.0 c.requires.1 in
    let odd_is : bit_and (c.args.q / 2 ^ c.args.sh) 1 ≡ c.args.q / 2 ^ c.args.sh % 2 = and_mask (c.args.q / 2 ^ c.args.sh) 1 in
    omega (arith, half_is, odd_is, pow_pos c.args.sh)

pub overflow_add-result : goal.overflow_add-result
overflow_add-result c =
    let half_is : 1 * 2 ^ (c.args.sh - 1) % 2 ^ 64 * 2 ≡ 2 ^ c.args.sh = two_halves c.args.sh c.requires.0 c.requires.1 in
    let half-small : 2 ^ c.args.sh ≤ 2 ^ 63 = let l : c.args.sh ≤ 63 = omega arith in pow_mono l in
    omega (arith, half_is, half-small)

pub overflow_add-result-2 : goal.overflow_add-result-2
overflow_add-result-2 c =
    let half_is : 1 * 2 ^ (c.args.sh - 1) % 2 ^ 64 * 2 ≡ 2 ^ c.args.sh = two_halves c.args.sh c.requires.0 c.requires.1 in
    let half-small : 2 ^ c.args.sh ≤ 2 ^ 63 = let l : c.args.sh ≤ 63 = omega arith in pow_mono l in
    let odd_is : bit_and (c.args.q / 2 ^ c.args.sh) 1 ≡ c.args.q / 2 ^ c.args.sh % 2 = and_mask (c.args.q / 2 ^ c.args.sh) 1 in
    omega (arith, half_is, half-small, odd_is)

pub returns : goal.returns
returns c =
    let odd_is : bit_and (c.args.q / 2 ^ c.args.sh) 1 ≡ c.args.q / 2 ^ c.args.sh % 2 = and_mask (c.args.q / 2 ^ c.args.sh) 1 in
    let half_is : 1 * 2 ^ (c.args.sh - 1) % 2 ^ 64 * 2 ≡ 2 ^ c.args.sh = two_halves c.args.sh c.requires.0 c.requires.1 in
    let q = c.args.q in
    let k = c.args.sh in
    let h = 1 * 2 ^ (k - 1) % 2 ^ 64 in
    ap (λ (x : ℕ). (q + (h - 1) + x) / 2 ^ k) (odd_is) ∙ rounded_by_carry q k h (half_is)
