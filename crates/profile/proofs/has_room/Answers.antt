-- Whether n (n + 3) fits is told by a quotient, so that no product can overflow.
use mathlib.Core.Path.{◌≡◌, refl, sym, ◌∙◌, ap}
use mathlib.Core.Bool.{Bool, true, false}
use Prim.Native.Nat.{ℕ, ◌+◌, ◌-◌, ◌*◌, ◌/◌, ◌≤◌, ◌<◌}
use native.Mathlib.Nat.{le-div_iff_mul-le, zero-mul, mul_comm, lt_of_not-le}
use native.Mathlib.Omega.{arith}
use borrow.Author.Tests.{le-leb, lt-leb}
use lib.Dec.{T, leb, leb→le, le→leb}
use Rattle.profile.specs.Layout.{need}
use Rattle.profile.proofs.has_room.Goals as goal

same_test : (a b : Bool) → (T a → T b) → (T b → T a) → a ≡ b
same_test true true p q = refl
same_test true false p q = absurd (p tt)
same_test false true p q = absurd (q tt)
same_test false false p q = refl

none : (len n : ℕ) → n ≡ 0 → true ≡ leb (need n) len
none len n e =
    let z : need n ≡ 0 = ap (λ (k : ℕ). k * (n + 3)) e ∙ zero-mul (n + 3) in
    sym (le-leb (need n) len (omega arith))

-- n (n + 3) ≤ len, by the quotient
by_quotient : (len n : ℕ) → 0 < n → need n ≤ len → n + 3 ≤ len / n
by_quotient len n p l = (le-div_iff_mul-le p).1 (rw mul_comm l)

short : (len n : ℕ) → 0 < n → len / n < 3 → false ≡ leb (need n) len
short len n p h = sym (lt-leb _ _ (lt_of_not-le (λ (l : need n ≤ len). omega (arith, by_quotient len n p l))))

fair : (len n : ℕ) → 0 < n → 3 ≤ len / n → leb n (len / n - 3) ≡ leb (need n) len
fair len n p h =
    same_test (leb n (len / n - 3)) (leb (need n) len)
    (λ t.
    let l : n ≤ len / n - 3 = leb→le n (len / n - 3) t in
    let g : n + 3 ≤ len / n = omega arith in le→leb (need n) len (rw mul_comm ((le-div_iff_mul-le p).0 g)))
    (λ t. le→leb n (len / n - 3) (omega (arith, by_quotient len n p (leb→le (need n) len t))))

pub returns-then-n-eq0 : goal.returns-then-n-eq0
returns-then-n-eq0 c = none c.args.len c.args.n c.if-n-eq0.true

pub returns-then-q-lt3 : goal.returns-then-q-lt3
returns-then-q-lt3 c = short c.args.len c.args.n (omega arith) c.if-q-lt3.true

pub returns : goal.returns
returns c = fair c.args.len c.args.n (omega arith) c.if-q-lt3.false
