-- What a float's text is at single numbers, computed, and how long it is at most. Assumes nothing.
use Rattle.std.proofs.Common.{◌≡◌, ℕ, zero, suc, ◌+◌, ◌-◌, ◌≤◌, Bool, true, false, not, ◌||◌, eqb, ltb, List, [], ◌∷◌, ◌++◌, map, length, take, drop, sym, refl, ap, ◌∙◌, arith, lit≤, length-append, take-append-drop, length-take}
use native.Mathlib.Nat.{min-le_right}
use lib.Ieee.{Float, nan, inf, binary64, of_bits, to_bits, to_unsigned, neg, eq, lt, add, mul, div}
use Rattle.numbers.specs.Notation.{◌⊕◌, num, ratio, if_then}
use Rattle.numbers.specs.Walks.{table}
use Rattle.line.specs.declared.ByTens.{ByTens}
use Rattle.line.specs.declared.SixDigits.{SixDigits}
use Rattle.line.specs.Text.{ascii, decimal}
use Rattle.line.specs.FloatText.{raised, lowered, repeated, scaled_of, whole_part, rounded_six, digits_text, pointed, plain_text, power_text, six_text, size_text}
use Rattle.line.specs.FloatText.{has_minus, float_text}
use Rattle.line.proofs.FloatLaws.{six_long}
use Rattle.line.proofs.Lines.{decimal_few}

-- nought with either sign; six digits to the nearest, a point at each place among them, none, and from no zero to three before them; numbers with a power of
-- ten, the least f64 and the largest too; infinities; and what is no number
pub samples : map float_text (
    num 0
    ∷ of_bits binary64 0x8000_0000_0000_0000
    ∷ num 1
    ∷ neg (ratio 5 2)
    ∷ ratio 1234567 100000
    ∷ ratio 1234567 10000
    ∷ ratio 1234567 1000
    ∷ ratio 1234567 100
    ∷ ratio 1234567 10
    ∷ num 123456
    ∷ ratio 9999994 10
    ∷ ratio 1999999 2
    ∷ ratio 1 4
    ∷ ratio 1 40
    ∷ ratio 1 400
    ∷ ratio 1 10000
    ∷ ratio 1 100000
    ∷ of_bits binary64 1
    ∷ of_bits binary64 0x7fef_ffff_ffff_ffff
    ∷ inf false
    ∷ inf true
    ∷ nan
    ∷ []
    )
    ≡ ascii "0"
    ∷ ascii "-0"
    ∷ ascii "1.00000"
    ∷ ascii "-2.50000"
    ∷ ascii "12.3457"
    ∷ ascii "123.457"
    ∷ ascii "1234.57"
    ∷ ascii "12345.7"
    ∷ ascii "123457"
    ∷ ascii "123456"
    ∷ ascii "999999"
    ∷ ascii "1.00000e+6"
    ∷ ascii "0.250000"
    ∷ ascii "0.0250000"
    ∷ ascii "0.00250000"
    ∷ ascii "0.000100000"
    ∷ ascii "1.00000e-5"
    ∷ ascii "4.94066e-324"
    ∷ ascii "1.79769e+308"
    ∷ ascii "inf"
    ∷ ascii "-inf"
    ∷ ascii "nan"
    ∷ []
unfolding float_text size_text six_text power_text plain_text pointed digits_text rounded_six whole_part scaled_of repeated lowered raised
    if_then table decimal ratio of_bits to_bits to_unsigned neg eq lt add mul div
samples = refl

-- ---- at most thirteen bytes

-- what holds of both holds of the one that is chosen
either_way : {A : Type 0} (P : A → Type 0) (b : Bool) {x y : A} → P x → P y → P (if_then b x y)
unfolding if_then
either_way P true p q = p
either_way P false p q = q

fewer_tens : (n : ℕ) (s : ByTens) → (repeated raised n s).tens ≤ s.tens
unfolding repeated raised
fewer_tens zero s = omega arith
fewer_tens (suc n) s =
    let r = repeated raised n s in let h = fewer_tens n s in
    either_way (λ (t : ByTens). t.tens ≤ s.tens) (lt r.value (num 100000)) (omega arith) h

more_tens : (n : ℕ) (s : ByTens) → (repeated lowered n s).tens ≤ s.tens + n
unfolding repeated lowered
more_tens zero s = omega arith
more_tens (suc n) s =
    let r = repeated lowered n s in let h = more_tens n s in
    either_way (λ (t : ByTens). t.tens ≤ s.tens + suc n) (lt r.value (num 1000000)) (omega arith) (omega arith)

tens_bounded : (x : Float) → (rounded_six (scaled_of x)).tens ≤ 806
unfolding scaled_of rounded_six
tens_bounded x =
    let start : ByTens = record { value = x; tens = 405 } in
    let a = fewer_tens 400 start in let b = more_tens 400 (repeated raised 400 start) in
    either_way (λ (t : SixDigits). t.tens ≤ 806) (ltb (whole_part ((repeated lowered 400 (repeated raised 400 start)).value ⊕ ratio 1 2)) 1000000)
    (omega arith) (omega arith)

pointed_length : (n k : ℕ) → length (pointed n k) ≤ 7
unfolding pointed
pointed_length n k =
    let t = take k (digits_text n) in let r = drop k (digits_text n) in
    let all : length t + length r ≡ 6 = sym (length-append t r) ∙ ap length (take-append-drop k (digits_text n)) ∙ six_long n in
    rw (length-append (t ++ ascii ".") r, length-append t (ascii ".")) (omega arith)

plain_length : (d : SixDigits) → length (plain_text d) ≤ 11
unfolding plain_text
plain_length d =
    let z = take (399 - d.tens) (ascii "000") in let ds = digits_text d.digits in
    let few : length z ≤ 3 = rw (length-take (399 - d.tens) (ascii "000")) (min-le_right (399 - d.tens) 3) in
    let six = six_long d.digits in let p = pointed_length d.digits (d.tens - 400 + 1) in
    let zeros : length (ascii "0." ++ z ++ ds) ≤ 11 = rw (length-append (ascii "0." ++ z) ds) (omega arith) in
    either_way short (ltb d.tens 400) zeros (either_way short (eqb d.tens 405) (omega arith) (omega arith))
  where
    short : List ℕ → Type 0
    short t = length t ≤ 11

power_length : (d : SixDigits) → d.tens ≤ 806 → length (power_text d) ≤ 12
unfolding power_text decimal
power_length d h =
    let p = pointed_length d.digits 1 in
    let a = decimal_few 20 3 (400 - d.tens) (omega arith) (omega arith) in let b = decimal_few 20 3 (d.tens - 400) (omega arith) (omega arith) in
    let e : List ℕ = if_then (ltb d.tens 400) (ascii "e-" ++ decimal (400 - d.tens)) (ascii "e+" ++ decimal (d.tens - 400)) in
    let five : length e ≤ 5 = either_way (λ (t : List ℕ). length t ≤ 5) (ltb d.tens 400) (omega arith) (omega arith) in
    rw (length-append (pointed d.digits 1) e) (omega arith)

size_length : (x : Float) → length (size_text x) ≤ 12
unfolding size_text six_text
size_length x =
    let d = rounded_six (scaled_of x) in let p = power_length d (tens_bounded x) in let q = plain_length d in
    either_way short (eq x (num 0)) (lit≤ tt)
    (either_way short (lt x (inf false)) (either_way short (ltb d.tens 396 || ltb 405 d.tens) p (omega arith)) (lit≤ tt))
  where
    short : List ℕ → Type 0
    short t = length t ≤ 12

-- of every float: six digits, a point, an e with its sign and three digits, and a minus sign
pub float_length : (x : Float) → length (float_text x) ≤ 13
unfolding float_text
float_length x =
    let p = size_length x in let q = size_length (neg x) in
    either_way short (not (eq x x)) (lit≤ tt) (either_way short (has_minus x) (omega arith) (omega arith))
  where
    short : List ℕ → Type 0
    short t = length t ≤ 13
