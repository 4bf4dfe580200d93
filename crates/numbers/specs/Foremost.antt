-- What it means that a table of refusals says a refusal, in the words of document 01, "What is turned down, and in what order": the refusal's row has its
-- fault at the refusal's place, and nothing that stands before it in the table's order has one. Definitions only.
use Rattle.std.specs.Prelude.{◌≡◌, ℕ, ◌<◌, true, false, List, [], ◌∷◌, ◌++◌}
use Rattle.numbers.specs.declared.Refusal.{Refusal}
use Rattle.numbers.specs.Refusals.{Fault, Row}

-- none of the faults is at the place p
abbrev pub NoneAt : List Fault → ℕ → Type 0
NoneAt [] p = Unit {0}
NoneAt (f ∷ fs) p = (f.has p ≡ false) × NoneAt fs p

-- no row has one of its faults at one of its places
abbrev pub Silent : List Row → Type 0
Silent [] = Unit {0}
Silent (r ∷ rs) = ((p : ℕ) → p < r.places → NoneAt r.faults p) × Silent rs

pub record Foremost (table : List Row) (r : Refusal) : Type 0 where
  -- where it stands
  pub rows_before : List Row
  pub its_row : Row
  pub rows_after : List Row
  pub table_is : table ≡ rows_before ++ (its_row ∷ rows_after)
  pub faults_before : List Fault
  pub its_fault : Fault
  pub faults_after : List Fault
  pub faults_are : its_row.faults ≡ faults_before ++ (its_fault ∷ faults_after)
  -- it is there, under its number
  pub number : its_fault.number ≡ r.number
  pub place : r.place < its_row.places
  pub there : its_fault.has r.place ≡ true
  -- and nothing before it is: no row, no place of its row, no fault at its place
  pub no_row_before : Silent rows_before
  pub no_place_before : (p : ℕ) → p < r.place → NoneAt its_row.faults p
  pub no_fault_before : NoneAt faults_before r.place
