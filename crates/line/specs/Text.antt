-- What programs say: texts in ASCII, numbers in decimal, the lines of a job's run (document 02, Wish 1), and a line by value. Definitions only.
use Rattle.std.specs.Prelude.{ℕ, zero, suc, ◌+◌, ◌/◌, ◌%◌, Bool, true, false, List, [], ◌∷◌, ◌++◌, take, replicate, nat_lt, slice_set}
use Prim.Native.Char.{code}
use Prim.Native.String.{String}
use Prim.Native.String as string
use Rattle.numbers.specs.Notation.{if_then}
use Rattle.line.specs.declared.Line.{Line}

-- ---- texts

abbrev pub ascii : String → List ℕ
ascii string.[] = []
ascii (string.◌∷◌ c s) = code c ∷ ascii s

-- n in decimal: the digits of n / 10, then the last one. Twenty digits hold every u64
abbrev pub decimal_of : ℕ → ℕ → List ℕ
decimal_of zero n = []
decimal_of (suc k) n = if_then (nat_lt n 10) ((48 + n) ∷ []) (decimal_of k (n / 10) ++ ((48 + n % 10) ∷ []))

unfoldable pub decimal : ℕ → List ℕ
decimal n = decimal_of 20 n

abbrev pub yes_no : Bool → List ℕ
yes_no true = ascii "yes"
yes_no false = ascii "no"

-- a run that was made: `poses 2 edges 1 iterations 0 converged yes`
unfoldable pub ran_text : ℕ → ℕ → ℕ → Bool → List ℕ
ran_text poses edges iterations converged =
    ascii "poses " ++ decimal poses
    ++ ascii " edges " ++ decimal edges
    ++ ascii " iterations " ++ decimal iterations
    ++ ascii " converged " ++ yes_no converged
    ++ ascii "\n"

-- a job or a run that was turned down: `refused 31 at 0`
unfoldable pub refused_text : ℕ → ℕ → List ℕ
refused_text number place =
    ascii "refused " ++ decimal number
    ++ ascii " at " ++ decimal place
    ++ ascii "\n"

-- a read that failed, which is no refusal
unfoldable pub unreadable_text : List ℕ
unreadable_text = ascii "can't read the input\n"

-- a joined job that could not be written
unfoldable pub unwritten_text : List ℕ
unwritten_text = ascii "can't write the output\n"

-- ---- a line by value: up to 256 bytes; what does not fit is left out

abbrev pub empty : Line
empty = record { bytes = replicate 256 0; used = 0 }

unfoldable pub with_byte : Line → ℕ → Line
with_byte l b = if_then (nat_lt l.used 256) (record { bytes = slice_set l.bytes l.used b; used = l.used + 1 }) l

unfoldable pub with_text : Line → List ℕ → Line
with_text l [] = l
with_text l (b ∷ bs) = with_text (with_byte l b) bs

abbrev pub line_of : List ℕ → Line
line_of text = with_text empty text

-- the text that a line holds
abbrev pub shown : Line → List ℕ
shown l = take l.used l.bytes
