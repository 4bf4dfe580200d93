-- Walks over the numbers 0, 1, .. below a count: tests, counts, tables, sums, and rows of steps that may stop. Definitions only.
use Rattle.std.specs.Prelude.{ℕ, zero, suc, Bool, true, false, cond, ◌&&◌, ◌||◌, List, [], ◌∷◌, ◌++◌, from_bits, Float, Err, Ok, Result, ⊤}
use Rattle.std.specs.Float.{Format}
use Rattle.std.specs.Float.Ieee.{add}
use Rattle.std.specs.Float.Ieee.Scale.{finite}
use Rattle.numbers.specs.Notation.{if_then}
use Rattle.numbers.specs.declared.Failure.{Failure}
use Rattle.numbers.specs.declared.Failure.TheVariants.{Numerical}

-- whether a test holds of one, of every one; of how many
unfoldable pub some : (ℕ → Bool) → ℕ → Bool
some t zero = false
some t (suc n) = some t n || t n

unfoldable pub every : (ℕ → Bool) → ℕ → Bool
every t zero = true
every t (suc n) = every t n && t n

unfoldable pub count : (ℕ → Bool) → ℕ → ℕ
count t zero = 0
count t (suc n) = cond (t n) (suc (count t n)) (count t n)

-- the list of a function's values
unfoldable pub table : {A : Type 0} → (ℕ → A) → ℕ → List A
table f zero = []
table f (suc n) = table f n ++ (f n ∷ [])

-- the lists f 0, f 1, .. f (n - 1), one behind the other
unfoldable pub strung : {A : Type 0} → (ℕ → List A) → ℕ → List A
strung f zero = []
strung f (suc n) = strung f n ++ f n

-- f 0, f 1, .. f (n - 1) added in this order in a format, from +0
unfoldable pub sum_of : Format → (ℕ → Float) → ℕ → Float
sum_of k f zero = from_bits k 0
sum_of k f (suc n) = add k (sum_of k f n) (f n)

-- ---- rows of steps. A step makes a new S of an S, and says whether it went well.

-- what a step says: that it went well, or why it did not
abbrev pub Went : Type 0
Went = Result ⊤ Failure

-- How a row of steps ends: all went well; or one did not, which and why. Either way, with what is left.
pub data Ended (S : Type 0) : Type 0 where
  done : S → Ended S
  stopped : ℕ → Failure → S → Ended S

abbrev pub step_end : {S : Type 0} → ℕ → Went × S → Ended S
step_end n (Ok _, s) = done s
step_end n (Err why, s) = stopped n why s

abbrev pub step_on : {S : Type 0} → Ended S → ℕ → (ℕ → S → Went × S) → Ended S
step_on (done s) n f = step_end n (f n s)
step_on (stopped k why s) n f = stopped k why s

-- f 0, f 1, .. f (n - 1), one after the other, up to the first that does not go well
unfoldable pub each : {S : Type 0} → (ℕ → S → Went × S) → ℕ → S → Ended S
each f zero s = done s
each f (suc n) s = step_on (each f n s) n f

-- a row of steps as one step
abbrev pub well : {S : Type 0} → Ended S → Went × S
well (done s) = (Ok tt, s)
well (stopped k why s) = (Err why, s)

-- what a step leaves, where it went well
abbrev pub made : {S : Type 0} → Went × S → Result S Failure
made (Ok _, s) = Ok s
made (Err why, s) = Err why

-- the step, where the test holds; else nothing is done
abbrev pub only : {S : Type 0} → Bool → (S → Went × S) → S → Went × S
only true f s = f s
only false f s = (Ok tt, s)

-- the second step, if the first went well
unfoldable pub and_then : {S : Type 0} → Went × S → (S → Went × S) → Went × S
and_then (Ok _, s) f = f s
and_then (Err why, s) f = (Err why, s)

-- what a step says whose number must be finite
unfoldable pub must_be_finite : Float → Went
must_be_finite x = if_then (finite x) (Ok tt) (Err Numerical)
