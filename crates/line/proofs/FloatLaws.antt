-- Laws of the parts of a float's text, over plain values: what lies between 0 and ten million fits a u64, digits one by one, and texts one behind another.
-- Assumes nothing.
use Rattle.std.proofs.Common.{◌≡◌, ℕ, ◌+◌, ◌-◌, ◌/◌, ◌%◌, ◌<◌, ◌≤◌, Bool, true, false, not, T, ltb, List, [], ◌∷◌, ◌++◌, length, take, drop, pos, sym, refl, ap, ◌∙◌, subst, div-one, arith, length-drop, take_all, le-ltb, lt-ltb, eq-eqb, ne_eqb}
use lib.Ieee.{Float, fin, lt, ne, is_nan}
use Rattle.numbers.specs.Notation.{◌⊕◌, num, ratio}
use Rattle.numbers.specs.Walks.{table}
use Rattle.numbers.proofs.Choices.{taken, left}
use Rattle.numbers.proofs.Order.{lt_through}
use Rattle.numbers.proofs.Read.{no_nan, is_nan_lem}
use Rattle.numbers.proofs.Tables.{length_table}
use Rattle.line.specs.declared.Line.{Line}
use Rattle.line.specs.declared.ByTens.{ByTens}
use Rattle.line.specs.declared.SixDigits.{SixDigits}
use Rattle.line.specs.Text.{ascii, decimal, with_text}
use Rattle.line.specs.FloatText.{whole_part, rounded_six, digits_text, pointed, plain_text, power_text}
use Rattle.line.proofs.Lines.{text_after}

-- ---- a whole part

minus_one_below : T (lt (fin true 1 (pos 0)) (num 0))
unfolding lt ratio
minus_one_below = tt

ten_million_below : T (lt (num 10000000) (fin false 1 (pos 64)))
unfolding lt ratio
ten_million_below = tt

pub whole_fits : (v : Float) → lt (num 0) v ≡ true → lt v (num 10000000) ≡ true
    → T (lt (fin true 1 (pos 0)) v) × T (lt v (fin false 1 (pos 64)))
whole_fits v h k = (
  lt_through _ (num 0) v minus_one_below (subst T (sym h) tt),
  lt_through v (num 10000000) _ (subst T (sym k) tt) ten_million_below,
)

-- ---- six digits

pub six_kept : (s : ByTens) (w : ℕ) → w ≡ whole_part (s.value ⊕ ratio 1 2) → w < 1000000 → record { digits = w; tens = s.tens } ≡ rounded_six s
unfolding rounded_six
six_kept s w e h =
    taken _ (ap (λ (k : ℕ). ltb k 1000000) (sym e) ∙ lt-ltb w 1000000 h) (ap (λ (k : ℕ). record { digits = k; tens = s.tens }) e)

pub six_more : (s : ByTens) (w : ℕ) → w ≡ whole_part (s.value ⊕ ratio 1 2) → 1000000 ≤ w → record { digits = 100000; tens = s.tens + 1 } ≡ rounded_six s
unfolding rounded_six
six_more s w e h = left _ (ap (λ (k : ℕ). ltb k 1000000) (sym e) ∙ le-ltb w 1000000 h) refl

pub by_digits : (n : ℕ)
    → (48 + n / 100000 % 10) ∷ (48 + n / 10000 % 10) ∷ (48 + n / 1000 % 10) ∷ (48 + n / 100 % 10) ∷ (48 + n / 10 % 10) ∷ (48 + n % 10) ∷ []
    ≡ digits_text n
unfolding digits_text table
by_digits n = rw (div-one n)

pub six_long : (n : ℕ) → length (digits_text n) ≡ 6
unfolding digits_text
six_long n = length_table _ 6

-- ---- texts one behind another

three_texts : (l : Line) (a b c : List ℕ) → with_text (with_text (with_text l a) b) c ≡ with_text l (a ++ b ++ c)
three_texts l a b c = ap (λ (x : Line). with_text x c) (text_after l a b) ∙ text_after l (a ++ b) c

two_behind : (l : Line) (a b c : List ℕ) → with_text (with_text (with_text l a) b) c ≡ with_text l (a ++ (b ++ c))
two_behind l a b c = text_after (with_text l a) b c ∙ text_after l a (b ++ c)

pub point_among : (l : Line) (n k : ℕ) (ds : List ℕ) → ds ≡ digits_text n
    → with_text (with_text (with_text l (take k ds)) (ascii ".")) (take (6 - k) (drop k ds)) ≡ with_text l (pointed n k)
unfolding pointed
point_among l n k ds e =
    let m : length (drop k (digits_text n)) ≤ 6 - k = rw (length-drop, six_long) (omega arith) in
    rw (e, take_all (6 - k) (drop k (digits_text n)) m) (three_texts l (take k (digits_text n)) (ascii ".") (drop k (digits_text n)))

pub plain_zeros : (l : Line) (d : SixDigits) (ds : List ℕ) → ds ≡ digits_text d.digits → d.tens < 400
    → with_text (with_text (with_text l (ascii "0.")) (take (399 - d.tens) (ascii "000"))) ds ≡ with_text l (plain_text d)
unfolding plain_text
plain_zeros l d ds e h =
    three_texts l (ascii "0.") (take (399 - d.tens) (ascii "000")) ds
    ∙ ap (with_text l) (taken _ (lt-ltb d.tens 400 h) (ap (λ (t : List ℕ). ascii "0." ++ take (399 - d.tens) (ascii "000") ++ t) e))

pub plain_whole : (l : Line) (d : SixDigits) (ds : List ℕ) → ds ≡ digits_text d.digits → 400 ≤ d.tens → d.tens ≡ 405
    → with_text l ds ≡ with_text l (plain_text d)
unfolding plain_text
plain_whole l d ds e h q = ap (with_text l) (left _ (le-ltb d.tens 400 h) (taken _ (eq-eqb d.tens 405 q) e))

pub plain_point : (l : Line) (d : SixDigits) → 400 ≤ d.tens → (d.tens ≡ 405 → ⊥)
    → with_text l (pointed d.digits (d.tens - 400 + 1)) ≡ with_text l (plain_text d)
unfolding plain_text
plain_point l d h q = ap (with_text l) (left _ (le-ltb d.tens 400 h) (left _ (ne_eqb d.tens 405 q) refl))

pub power_below : (l : Line) (d : SixDigits) → d.tens < 400
    → with_text (with_text (with_text l (pointed d.digits 1)) (ascii "e-")) (decimal (400 - d.tens)) ≡ with_text l (power_text d)
unfolding power_text
power_below l d h =
    two_behind l (pointed d.digits 1) (ascii "e-") (decimal (400 - d.tens))
    ∙ ap (λ (t : List ℕ). with_text l (pointed d.digits 1 ++ t)) (taken _ (lt-ltb d.tens 400 h) refl)

pub power_above : (l : Line) (d : SixDigits) → 400 ≤ d.tens
    → with_text (with_text (with_text l (pointed d.digits 1)) (ascii "e+")) (decimal (d.tens - 400)) ≡ with_text l (power_text d)
unfolding power_text
power_above l d h =
    two_behind l (pointed d.digits 1) (ascii "e+") (decimal (d.tens - 400))
    ∙ ap (λ (t : List ℕ). with_text l (pointed d.digits 1 ++ t)) (left _ (le-ltb d.tens 400 h) refl)

-- ---- what is no number

is_false : (b : Bool) → T (not b) → b ≡ false
is_false true h = absurd h
is_false false h = refl

-- only a NaN differs from itself
pub nan_differs : (x : Float) → is_nan x ≡ ne x x
unfolding is_nan
nan_differs x = go (ne x x) refl
  where
    go : (b : Bool) → ne x x ≡ b → is_nan x ≡ b
    go true h = ap is_nan (is_nan_lem x h)
    go false h = is_false (is_nan x) (no_nan x h)
