-- A float in a text: six significant digits, plain from 0.0001 to below 1000000, else d.ddddde±X; 0, -0, inf, -inf, nan. It is worked out in f64: by tens up
-- or down until it lies from 100000 to below 1000000, then to the nearest whole number. Definitions only.
use Rattle.std.specs.Prelude.{ℕ, zero, suc, ◌+◌, ◌-◌, ◌/◌, ◌%◌, ◌^◌, Bool, false, not, ◌||◌, List, ◌++◌, take, drop, ◌==◌, nat_le, nat_lt, to_bits, Float}
use Rattle.std.specs.Float.{inf, binary64}
use Rattle.std.specs.Float.Ieee.{to_unsigned, neg, eq, lt}
use Rattle.numbers.specs.Notation.{◌⊕◌, ◌⊗◌, ◌⊘◌, num, ratio, if_then}
use Rattle.numbers.specs.Walks.{table}
use Rattle.line.specs.Text.{ascii, decimal}
use Rattle.line.specs.declared.ByTens.{ByTens}
use Rattle.line.specs.declared.SixDigits.{SixDigits}

-- ---- by tens. A ByTens stands for value × 10^(tens − 405)

-- the power of ten that stands for d.ddddd × 10^0
abbrev pub unit_place : ℕ
unit_place = 400

unfoldable pub raised : ByTens → ByTens
raised s = if_then (lt s.value (num 100000)) (record { value = s.value ⊗ num 10; tens = s.tens - 1 }) s

unfoldable pub lowered : ByTens → ByTens
lowered s = if_then (lt s.value (num 1000000)) s (record { value = s.value ⊘ num 10; tens = s.tens + 1 })

unfoldable pub repeated : (ByTens → ByTens) → ℕ → ByTens → ByTens
repeated f zero s = s
repeated f (suc n) s = f (repeated f n s)

-- 400 turns are more than any f64 needs
unfoldable pub scaled_of : Float → ByTens
scaled_of x = repeated lowered 400 (repeated raised 400 (record { value = x; tens = unit_place + 5 }))

-- ---- six digits

-- the whole part, of what lies above 0 and below ten million
unfoldable pub whole_part : Float → ℕ
whole_part v = if_then (lt (num 0) v) (if_then (lt v (num 10000000)) (to_unsigned 64 v) 0) 0

-- rounded to a whole number; 999999.5 and more is one ten more
unfoldable pub rounded_six : ByTens → SixDigits
rounded_six s =
    let whole = whole_part (s.value ⊕ ratio 1 2) in
    if_then (nat_lt whole 1000000) (record { digits = whole; tens = s.tens }) (record { digits = 100000; tens = s.tens + 1 })

unfoldable pub digits_text : ℕ → List ℕ
digits_text n = table (λ j. 48 + n / 10 ^ (5 - j) % 10) 6

-- the digits with a point behind the first k
unfoldable pub pointed : ℕ → ℕ → List ℕ
pointed n k = take k (digits_text n) ++ ascii "." ++ drop k (digits_text n)

-- ---- the text

-- X is tens − 400: from 0 to 4 a point stands among the digits, at 5 there is none, from −1 to −4 zeros stand before them
unfoldable pub plain_text : SixDigits → List ℕ
plain_text d =
    if_then (nat_lt d.tens unit_place) (ascii "0." ++ take (unit_place - 1 - d.tens) (ascii "000") ++ digits_text d.digits)
    (if_then (d.tens == unit_place + 5) (digits_text d.digits) (pointed d.digits (d.tens - unit_place + 1)))

unfoldable pub power_text : SixDigits → List ℕ
power_text d =
    pointed d.digits 1
    ++ if_then (nat_lt d.tens unit_place) (ascii "e-" ++ decimal (unit_place - d.tens)) (ascii "e+" ++ decimal (d.tens - unit_place))

unfoldable pub six_text : SixDigits → List ℕ
six_text d = if_then (nat_lt d.tens (unit_place - 4) || nat_lt (unit_place + 5) d.tens) (power_text d) (plain_text d)

-- of a number with no minus sign
unfoldable pub size_text : Float → List ℕ
size_text x = if_then (eq x (num 0)) (ascii "0") (if_then (lt x (inf false)) (six_text (rounded_six (scaled_of x))) (ascii "inf"))

-- the sign bit
abbrev pub has_minus : Float → Bool
has_minus x = nat_le 0x8000_0000_0000_0000 (to_bits binary64 x)

unfoldable pub float_text : Float → List ℕ
float_text x = if_then (not (eq x x)) (ascii "nan") (if_then (has_minus x) (ascii "-" ++ size_text (neg x)) (size_text x))
