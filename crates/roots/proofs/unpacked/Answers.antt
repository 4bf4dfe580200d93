-- `roots::unpacked` meets its contract: the fields are a fraction, with the leading digit put in its place. Assumes nothing.
use Rattle.std.proofs.Common.{◌≡◌, ℕ, suc, ◌+◌, ◌-◌, ◌*◌, ◌/◌, ◌%◌, ◌^◌, ◌<◌, ◌≤◌, false, sym, ap, ◌∙◌, subst, mod-lt, mul_assoc, add_comm, zero-add, mul_right_comm, arith, pow_pos, pow_mono, pow-add}
use lib.Bits.{bit_and}
use lib.Ieee.{Float, nan, inf, fin, Format, prec, emax, low, up, down, hid, of_fields}
use lib.Ieee.Fits.{two, reach}
use lib.Ieee.Exact.{HasValue}
use Rattle.numbers.proofs.Word.{one_shl, low_bits, rest_pos}
use Rattle.numbers.proofs.Read.{read_low, read_high}
use Rattle.roots.proofs.Rooting.{square_pow, hid_is}
use Rattle.roots.proofs.unpacked.Goals as goal

pub overflow_sub-t : goal.overflow_sub-t
overflow_sub-t c =
    let unit : 1 * 2 ^ c.args.w % 2 ^ 64 ≡ 2 ^ c.args.w = one_shl c.args.w (omega arith) in
    rw (unit) (pow_pos c.args.w)

pub lifted-requires : goal.lifted-requires
lifted-requires c =
    let cut_off : bit_and c.args.b (1 * 2 ^ c.args.w % 2 ^ 64 - 1) ≡ c.args.b % 2 ^ c.args.w = low_bits c.args.b c.args.w (omega arith) in
    let below : c.args.b % 2 ^ c.args.w < 2 ^ c.args.w = mod-lt c.args.b (pow_pos c.args.w) in
    let p = rest_pos (2 ^ c.args.w) c.args.b c.requires.0 c.if-e-eq0.true in (
      omega (arith, cut_off, p),
      omega (arith, cut_off, below),
      omega arith,
      omega arith,
    )

pub overflow_add-result : goal.overflow_add-result
overflow_add-result c =
    let cut_off : bit_and c.args.b (1 * 2 ^ c.args.w % 2 ^ 64 - 1) ≡ c.args.b % 2 ^ c.args.w = low_bits c.args.b c.args.w (omega arith) in
    let unit : 1 * 2 ^ c.args.w % 2 ^ 64 ≡ 2 ^ c.args.w = one_shl c.args.w (omega arith) in
    let below : c.args.b % 2 ^ c.args.w < 2 ^ c.args.w = mod-lt c.args.b (pow_pos c.args.w) in
    let small : 2 ^ c.args.w ≤ 2 ^ 52 = pow_mono c.requires.1 in
    omega (arith, cut_off, unit, below, small)

positive : (x : ℕ) → (x ≡ 0 → ⊥) → 0 < x
positive x h = omega arith

-- the exponent stays in the format's range
low_small : (p e a l : ℕ) → 2 ≤ p → p ≤ suc e → l ≡ e + p - 2 → a ≤ l → a < 4 * e
low_small p e a l P R L A = omega arith

high_small : (p e x l : ℕ) → 2 ≤ p → p ≤ suc e → l ≡ e + p - 2 → 0 < x → x < 2 * e + 1 → x - 1 + l < 4 * e
high_small p e x l P R L X O = omega arith

-- n / c is n * k / (c * k)
scaled_value : (v : Float) (n c k : ℕ) → HasValue v false n c → HasValue v false (n * k) (c * k)
scaled_value nan n c k h = absurd h
scaled_value (inf s) n c k h = absurd h
scaled_value (fin s m e) n c k h = (h.0, sym (mul_assoc (m * up e) c k) ∙ ap (λ (x : ℕ). x * k) h.1 ∙ mul_right_comm n (down e) k)

-- a value in smallest ones, as a fraction of their square
squared : (f : Format) (v : Float) (least q i : ℕ) → low f ≡ least → HasValue v false (q * 2 ^ i) (2 ^ low f)
    → HasValue v false (q * 2 ^ (i + least)) (2 ^ (2 * least))
squared f v least q i L h =
    subst (λ (x : ℕ). HasValue v false x (2 ^ (2 * least))) (mul_assoc q (2 ^ i) (2 ^ least) ∙ ap (λ (x : ℕ). q * x) (sym (pow-add 2 i least)))
    (subst (HasValue v false (q * 2 ^ i * 2 ^ least)) (square_pow least)
    (scaled_value v (q * 2 ^ i) (2 ^ least) (2 ^ least) (subst (λ (x : ℕ). HasValue v false (q * 2 ^ i) (2 ^ x)) L h)))

pub returns-then-e-eq0 : goal.returns-then-e-eq0
returns-then-e-eq0 c =
    let cut_off : bit_and c.args.b (1 * 2 ^ c.args.w % 2 ^ 64 - 1) ≡ c.args.b % 2 ^ c.args.w = low_bits c.args.b c.args.w (omega arith) in
    let w = c.args.w in
    let t = c.args.b % 2 ^ w in
    let l = c.args.least in
    let n = c.lifted.result in (
      c.lifted.ensures.1,
      c.lifted.ensures.2,
      omega arith,
      omega arith,
      λ f P L O. (
        low_small (prec f) (emax f) n.a l (two f) (reach f) (sym L) c.lifted.ensures.3,
        subst (λ (x : ℕ). HasValue (of_fields f false x t) false (n.q * 2 ^ n.a) (2 ^ (2 * l))) (sym c.if-e-eq0.true)
            (subst (λ (x : ℕ). HasValue (of_fields f false 0 t) false x (2 ^ (2 * l)))
            (ap (λ (x : ℕ). t * 2 ^ x) (zero-add l) ∙ ap (λ (x : ℕ). x * 2 ^ l) (sym (cut_off)) ∙ sym c.lifted.ensures.0)
            (squared f (of_fields f false 0 t) l t 0 L (read_low f false t))),
      ),
    )

pub returns-else-e-eq0 : goal.returns-else-e-eq0
returns-else-e-eq0 c =
    let unit : 1 * 2 ^ c.args.w % 2 ^ 64 ≡ 2 ^ c.args.w = one_shl c.args.w (omega arith) in
    let cut_off : bit_and c.args.b (1 * 2 ^ c.args.w % 2 ^ 64 - 1) ≡ c.args.b % 2 ^ c.args.w = low_bits c.args.b c.args.w (omega arith) in
    let below : c.args.b % 2 ^ c.args.w < 2 ^ c.args.w = mod-lt c.args.b (pow_pos c.args.w) in
    let w = c.args.w in
    let t = c.args.b % 2 ^ w in
    let x = c.args.b / 2 ^ w in
    let l = c.args.least in
    let p = positive x c.if-e-eq0.false in (
      omega (arith, unit),
      omega (arith, cut_off, unit, below),
      omega (arith, p),
      omega (arith, p),
      λ f P L O. (
        high_small (prec f) (emax f) x l (two f) (reach f) (sym L) p O,
        subst (λ (q : ℕ). HasValue (of_fields f false x t) false (q * 2 ^ (x - 1 + l)) (2 ^ (2 * l)))
            (add_comm (hid f) t ∙ ap (λ (v : ℕ). t + v) (hid_is f w P ∙ sym (unit)) ∙ ap (λ (v : ℕ). v + 1 * 2 ^ w % 2 ^ 64) (sym (cut_off)))
            (squared f (of_fields f false x t) l (hid f + t) (x - 1) L (read_high f false x t p O)),
      ),
    )
