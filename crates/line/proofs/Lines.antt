-- Lines: a text behind another is one text, a text that fits is shown whole, and the kit's digits are the number in decimal. Assumes nothing.
use Rattle.std.proofs.Common.{◌≡◌, ℕ, zero, suc, ◌+◌, ◌-◌, ◌/◌, ◌%◌, ◌^◌, ◌<◌, ◌≤◌, Bool, true, false, ltb, List, [], ◌∷◌, ◌++◌, length, get_or, take, set, sym, refl, ap, ◌∙◌, ⊎_elim, append_assoc, append-nil, eq-zero-or-pos, pow-suc, arith, lit<, lit≤, length-append, length-set, take-suc, take-suc-set, le-ltb, lt-ltb}
use native.Mathlib.Nat.{pow-le-pow_right}
use lib.ListN.{length-replicate}
use Rattle.io.specs.Digits.{hex_digit_ascii, last_digits, IsDigitCount}
use Rattle.numbers.specs.Notation.{if_then}
use Rattle.numbers.proofs.Choices.{taken, left}
use Rattle.line.specs.declared.Line.{Line}
use Rattle.line.specs.Text.{decimal_of, decimal, yes_no, ran_text, refused_text, unreadable_text, unwritten_text, empty, with_byte, with_text, line_of, shown}

-- ---- a text behind another

pub text_after : (l : Line) (a b : List ℕ) → with_text (with_text l a) b ≡ with_text l (a ++ b)
unfolding with_text
text_after l [] b = refl
text_after l (x ∷ a) b = text_after (with_byte l x) a b

pub text_none : (l : Line) → l ≡ with_text l []
unfolding with_text
text_none l = refl

pub text_more : (l r : Line) (t : List ℕ) (i : ℕ) → i < length t → r ≡ with_text l (take i t) → with_byte r (get_or t i 0) ≡ with_text l (take (i + 1) t)
unfolding with_text
text_more l r t i h e =
    let z : i + 1 ≡ suc i = omega arith in
    rw (z, e, take-suc t i 0 h) (text_after l (take i t) (get_or t i 0 ∷ []))

-- a text behind a line's text, and so piece by piece
behind : {l : Line} (t u : List ℕ) → l ≡ line_of t → with_text l u ≡ line_of (t ++ u)
behind t u q = ap (λ (x : Line). with_text x u) q ∙ text_after empty t u

pub five_texts : (a b c d e : List ℕ) → with_text (with_text (with_text (with_text (line_of a) b) c) d) e ≡ line_of (a ++ b ++ c ++ d ++ e)
five_texts a b c d e = behind (a ++ b ++ c ++ d) e (behind (a ++ b ++ c) d (behind (a ++ b) c (behind a b refl)))

pub nine_texts : (a b c d e f g h i : List ℕ)
    → with_text (with_text (with_text (with_text (with_text (with_text (with_text (with_text (line_of a) b) c) d) e) f) g) h) i
    ≡ line_of (a ++ b ++ c ++ d ++ e ++ f ++ g ++ h ++ i)
nine_texts a b c d e f g h i =
    let five = a ++ b ++ c ++ d ++ e in
    behind (five ++ f ++ g ++ h) i (behind (five ++ f ++ g) h (behind (five ++ f) g (behind five f (five_texts a b c d e))))

-- ---- a text that fits is shown whole

record Held (l : Line) (t : List ℕ) : Type 0 where
  pub is : take l.used l.bytes ≡ t
  pub many : l.used ≡ length t
  pub room : length l.bytes ≡ 256

held_byte : (l : Line) (t : List ℕ) (b : ℕ) → Held l t → length t < 256 → Held (with_byte l b) (t ++ (b ∷ []))
unfolding with_byte if_then
held_byte l t b h q =
    let m = h.many in let r = h.room in
    let y : ltb l.used 256 ≡ true = lt-ltb l.used 256 (omega arith) in
    let z : l.used + 1 ≡ suc l.used = omega arith in
    rw y (record {
      is =
          ap (λ (k : ℕ). take k (set l.bytes l.used b)) z ∙ take-suc-set l.bytes l.used b (omega arith) ∙ ap (λ (x : List ℕ). x ++ (b ∷ [])) h.is;
      many = rw (length-append t (b ∷ [])) (omega arith);
      room = length-set l.bytes l.used b ∙ r;
    })

held_text : (l : Line) (t u : List ℕ) → Held l t → length t + length u ≤ 256 → Held (with_text l u) (t ++ u)
unfolding with_text
held_text l t [] h q = rw (append-nil t) h
held_text l t (b ∷ u) h q =
    let n = length-append t (b ∷ []) in
    rw (sym (append_assoc t (b ∷ []) u)) (held_text (with_byte l b) (t ++ (b ∷ [])) u (held_byte l t b h (omega arith)) (omega arith))

held_whole : (t : List ℕ) → length t ≤ 256 → Held (line_of t) t
held_whole t q = held_text empty [] t (record { is = refl; many = refl; room = length-replicate {A = ℕ} 256 0 }) (omega arith)

pub shown_whole : (t : List ℕ) → length t ≤ 256 → shown (line_of t) ≡ t
shown_whole t q = (held_whole t q).is

pub used_whole : (t : List ℕ) → length t ≤ 256 → (line_of t).used ≡ length t
used_whole t q = (held_whole t q).many

-- ---- the kit's digits

glyph_below : (d : ℕ) → d < 10 → hex_digit_ascii d ≡ 48 + d
glyph_below d h = rw (lt-ltb d 10 h)

few_digits : (m k n : ℕ) → IsDigitCount 10 1 n k → k ≤ m → last_digits 10 k n ≡ decimal_of m n
unfolding if_then
few_digits zero k n f h = absurd (let a = f.0 in omega arith)
few_digits (suc m) zero n f h = absurd (let a = f.0 in omega arith)
few_digits (suc m) (suc zero) n f h =
    let a : n < 10 = let b = f.1 in omega (arith, pow-suc 10 0) in
    let r : n % 10 ≡ n = omega arith in
    taken _ (lt-ltb n 10 a) (ap (λ (x : ℕ). x ∷ []) (ap hex_digit_ascii r ∙ glyph_below n a))
few_digits (suc m) (suc (suc k)) n f h =
    let y : suc (suc k) - 1 ≡ suc k = omega arith in
    let p : 10 ^ suc k ≤ n = rw y at (f.2 (omega arith)) in
    let q : n < 10 ^ suc (suc k) = f.1 in
    let a = pow-suc 10 k in let b = pow-suc 10 (suc k) in
    let one : 0 < 10 ^ k = positive k in
    let ten : 10 ≤ n = omega arith in
    let rest : IsDigitCount 10 1 (n / 10) (suc k) = (omega arith, omega arith, λ (g : 1 < suc k). deeper k n p g) in
    left _ (le-ltb n 10 ten)
    (ap (λ (x : List ℕ). x ++ (hex_digit_ascii (n % 10) ∷ [])) (few_digits m (suc k) (n / 10) rest (omega arith))
    ∙ ap (λ (x : ℕ). decimal_of m (n / 10) ++ (x ∷ [])) (glyph_below (n % 10) (omega arith)))
  where
    positive : (k : ℕ) → 0 < 10 ^ k
    positive zero = omega arith
    positive (suc k) = let a = pow-suc 10 k in let b = positive k in omega arith

    deeper : (k n : ℕ) → 10 ^ suc k ≤ n → 1 < suc k → 10 ^ (suc k - 1) ≤ n / 10
    deeper zero n p g = absurd (omega arith)
    deeper (suc k) n p g =
        let z : suc (suc k) - 1 ≡ suc k = omega arith in
        let a = pow-suc 10 (suc k) in
        rw z (omega arith)

-- a u64 has at most twenty
at_most_twenty : (k n : ℕ) → n < 2 ^ 64 → IsDigitCount 10 1 n k → k ≤ 20
at_most_twenty k n h f =
    ⊎_elim (λ x. omega arith)
    (λ x. let p = pow-le-pow_right {n = 10} (lit< tt) {i = 20} {j = k - 1} (omega arith) in omega (arith, f.2 (omega arith)))
    (eq-zero-or-pos (k - 20))

pub decimal_digits : (k n : ℕ) → n < 2 ^ 64 → IsDigitCount 10 1 n k → last_digits 10 k n ≡ decimal n
unfolding decimal
decimal_digits k n h f = few_digits 20 k n f (at_most_twenty k n h f)

pub decimal_length : (k n : ℕ) → length (decimal_of k n) ≤ k
unfolding if_then
decimal_length zero n = omega arith
decimal_length (suc k) n = go (ltb n 10) (decimal_length k (n / 10))
  where
    go : (b : Bool) → length (decimal_of k (n / 10)) ≤ k → length (if_then b ((48 + n) ∷ []) (decimal_of k (n / 10) ++ ((48 + n % 10) ∷ []))) ≤ suc k
    go true h = omega arith
    go false h = let q = length-append (decimal_of k (n / 10)) ((48 + n % 10) ∷ []) in omega arith

-- a number below 10^j has at most j digits
pub decimal_few : (k j n : ℕ) → 0 < j → n < 10 ^ j → length (decimal_of k n) ≤ j
unfolding if_then
decimal_few zero j n p h = omega arith
decimal_few (suc k) zero n p h = absurd (omega arith)
decimal_few (suc k) (suc zero) n p h =
    let a = pow-suc 10 0 in
    rw (lt-ltb n 10 (omega arith)) (omega arith)
decimal_few (suc k) (suc (suc j)) n p h =
    let a = pow-suc 10 (suc j) in
    go (ltb n 10) (decimal_few k (suc j) (n / 10) (omega arith) (omega arith))
  where
    go : (b : Bool) → length (decimal_of k (n / 10)) ≤ suc j
        → length (if_then b ((48 + n) ∷ []) (decimal_of k (n / 10) ++ ((48 + n % 10) ∷ []))) ≤ suc (suc j)
    go true q = omega arith
    go false q = let r = length-append (decimal_of k (n / 10)) ((48 + n % 10) ∷ []) in omega arith

-- so both lines of a run are shown whole
pub ran_shown : (poses edges iterations : ℕ) (converged : Bool)
    → shown (line_of (ran_text poses edges iterations converged)) ≡ ran_text poses edges iterations converged
unfolding ran_text decimal
ran_shown p e i b =
    let x = decimal_length 20 p in let y = decimal_length 20 e in let z = decimal_length 20 i in
    shown_whole _ (simp length-append (go b x y z))
  where
    go : (b : Bool) → length (decimal_of 20 p) ≤ 20 → length (decimal_of 20 e) ≤ 20 → length (decimal_of 20 i) ≤ 20
        → 6 + length (decimal_of 20 p) + 7 + length (decimal_of 20 e) + 12 + length (decimal_of 20 i) + 11 + length (yes_no b) + 1 ≤ 256
    go true x y z = omega arith
    go false x y z = omega arith

pub refused_shown : (number place : ℕ) → shown (line_of (refused_text number place)) ≡ refused_text number place
unfolding refused_text decimal
refused_shown n p =
    let x = decimal_length 20 n in let y = decimal_length 20 p in
    shown_whole _ (simp length-append (let q : 8 + length (decimal_of 20 n) + 4 + length (decimal_of 20 p) + 1 ≤ 256 = omega arith in q))

pub unreadable_shown : shown (line_of unreadable_text) ≡ unreadable_text
unfolding unreadable_text
unreadable_shown = shown_whole _ (lit≤ tt)

pub unwritten_shown : shown (line_of unwritten_text) ≡ unwritten_text
unfolding unwritten_text
unwritten_shown = shown_whole _ (lit≤ tt)
