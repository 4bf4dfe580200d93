-- The records of a job file (document 02, Wish 1): which fault the record at a place has, and what it leads to. Definitions only.
use Rattle.std.specs.Prelude.{ℕ, ◌+◌, Bool, not, ◌&&◌, ◌||◌, List, [], ◌∷◌, eqb, ltb, leb, length, Option, Some, None, Result, Ok, Err}
use Rattle.numbers.specs.Notation.{if_then}
use Rattle.numbers.specs.Refusals.{Fault, fault, says, Verdict}
use Rattle.numbers.specs.declared.Refusal.{Refusal}
use Rattle.job_records.specs.Bytes.{value_at}
use Rattle.job_records.specs.declared.Tally.{Tally}
use Rattle.job_records.specs.declared.Cursor.{Cursor}

-- ---- which fault a record has

abbrev pub length_at : List ℕ → ℕ → ℕ
length_at s at = value_at 2 s at

abbrev pub kind_at : List ℕ → ℕ → ℕ
kind_at s at = value_at 2 s (at + 2)

-- the kind is known, and the length is that of its body
unfoldable pub is_record : ℕ → ℕ → Bool
is_record kind len =
    (eqb kind 1 && eqb len 16)
    || ((eqb kind 2 && eqb len 96)
    || ((eqb kind 3 && eqb len 40)
    || ((eqb kind 4 && eqb len 4)
    || (eqb kind 5 && eqb len 0))))

-- settings come first, and once; kinds never fall. `last` is the kind of the record before, 0 where there is none
unfoldable pub may_follow : ℕ → ℕ → Bool
may_follow last kind = if_then (eqb last 0) (eqb kind 1) (not (eqb kind 1) && leb last kind)

-- there is no room for one more of the kind
unfoldable pub is_full : Tally → Tally → ℕ → Bool
is_full room had kind =
    (eqb kind 2 && leb room.poses had.poses)
    || ((eqb kind 3 && leb room.edges had.edges)
    || (eqb kind 4 && leb room.fixed had.fixed))

-- a cut header, then a bad length, kind or order, a cut body, one too many; the place is where the record starts or should
abbrev pub record_faults : Tally → List ℕ → Cursor → List Fault
record_faults room s c =
    fault 31 (λ at. ltb (length s) (at + 4))
    ∷ fault 30 (λ at. not (is_record (kind_at s at) (length_at s at) && may_follow c.last (kind_at s at)))
    ∷ fault 31 (λ at. ltb (length s) (at + 4 + length_at s at))
    ∷ fault 32 (λ at. is_full room c.had (kind_at s at))
    ∷ []

unfoldable pub fault_of : Tally → List ℕ → Cursor → Verdict
fault_of room s c = says (record_faults room s c) c.at

-- any byte after the end
abbrev pub end_faults : List ℕ → List Fault
end_faults s =
    fault 30 (λ at. ltb at (length s))
    ∷ []

-- ---- from record to record

abbrev pub one : Bool → ℕ
one b = if_then b 1 0

abbrev pub counted : ℕ → Tally → Tally
counted kind t =
    record { poses = t.poses + one (eqb kind 2); edges = t.edges + one (eqb kind 3); fixed = t.fixed + one (eqb kind 4) }

-- behind the record at a cursor
abbrev pub behind : List ℕ → Cursor → Cursor
behind s c =
    record { at = c.at + 4 + length_at s c.at; last = kind_at s c.at; had = counted (kind_at s c.at) c.had }

-- what the record at a cursor leads to: the next one, the end, or a refusal
abbrev pub closed : Verdict → Result (Option Cursor) Refusal
closed (Ok _) = Ok None
closed (Err r) = Err r

abbrev pub step_from : List ℕ → Cursor → Verdict → Result (Option Cursor) Refusal
step_from s c (Err r) = Err r
step_from s c (Ok _) = if_then (eqb (kind_at s c.at) 5) (closed (says (end_faults s) (c.at + 4))) (Ok (Some (behind s c)))

unfoldable pub record_step : Tally → List ℕ → Cursor → Result (Option Cursor) Refusal
record_step room s c = step_from s c (fault_of room s c)
