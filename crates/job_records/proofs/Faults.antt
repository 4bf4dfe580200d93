-- What the record at a cursor leads to, for each way that the tests on it can go: the definition of a step read test by test. Assumes nothing.
use Prim.Native.Nat.{ℕ, ◌+◌, ◌*◌, ◌-◌, ◌<◌, ◌≤◌}
use native.Mathlib.Omega.{arith}
use native.Mathlib.Numerals.{add-one}
use mathlib.Core.Path.{◌≡◌, sym, ◌∙◌}
use mathlib.Core.Bool.{Bool, true, false, not, ◌&&◌, true≢false}
use mathlib.Core.List.{List}
use lib.Dec.{eqb, ltb, leb}
use lib.ListN.{length, get_or}
use borrow.Author.Tests.{lt-ltb, le-ltb, leb-false, eq-eqb, ne_eqb}
use Rattle.numbers.specs.Refusals.{refusal, says}
use Rattle.numbers.specs.Notation.{if_then}
use Rattle.numbers.proofs.Choices.{taken, left}
use Rattle.numbers.proofs.Tests.{neither_first, neither_second}
use Rattle.job_records.specs.Bytes.{value_at}
use Rattle.job_records.specs.Records.{length_at, kind_at, is_record, may_follow, is_full, fault_of, end_faults, one, counted, closed, record_step}
use Rattle.job_records.specs.declared.Tally.{Tally}
use Rattle.job_records.specs.declared.Cursor.{Cursor}
use Rattle.numbers.specs.declared.Refusal.{Refusal}
use Rattle.std.specs.Prelude.{Option, Some, None, Result, Ok, Err}

-- behind the end record
pub byte_behind : (s : List ℕ) (at : ℕ) → at < length s → Err (refusal 30 at) ≡ closed (says (end_faults s) at)
byte_behind s at h = rw (lt-ltb at (length s) h)

pub nothing_behind : (s : List ℕ) (at : ℕ) → length s ≤ at → Ok None ≡ closed (says (end_faults s) at)
nothing_behind s at h = rw (le-ltb at (length s) h)

-- so many bytes are left from the cursor on
module _ (room : Tally) (s : List ℕ) (c : Cursor) (r : Result (Option Cursor) Refusal) (rest : ℕ) (rest-is : rest ≡ length s - c.at) where
  pub cut_head : rest < 4 → r ≡ Err (refusal 31 c.at) → r ≡ record_step room s c
  unfolding record_step fault_of
  cut_head l e = rw (lt-ltb (length s) (c.at + 4) (omega arith)) e

  -- there is a header: a length and a kind, whether they fit each other, and whether the kind fits the record before
  module _ (head : 4 ≤ rest) (len kind : ℕ) (fit follow : Bool) where
    abbrev Header : Type 0
    Header = (len ≡ length_at s c.at) × (kind ≡ kind_at s c.at) × (fit ≡ is_record kind len) × (follow ≡ may_follow c.last kind)

    headed : ltb (length s) (c.at + 4) ≡ false
    headed = le-ltb (length s) (c.at + 4) (omega arith)

    placed : Header → (b : Bool) → not (fit && follow) ≡ b
        → not (is_record (kind_at s c.at) (length_at s c.at) && may_follow c.last (kind_at s c.at)) ≡ b
    placed h b t = rw (← h.0, ← h.1, ← h.2, ← h.3) t

    pub misplaced : Header → not (fit && follow) ≡ true → r ≡ Err (refusal 30 c.at) → r ≡ record_step room s c
    unfolding record_step fault_of
    misplaced h t e = rw (headed, placed h true t) e

    module _ (h : Header) (t : not (fit && follow) ≡ false) where
      pub cut_body : rest - 4 < len → r ≡ Err (refusal 31 c.at) → r ≡ record_step room s c
      unfolding record_step fault_of
      cut_body l e = rw (headed, placed h false t, ← h.0, lt-ltb (length s) (c.at + 4 + len) (omega arith)) e

      -- the body is there; whether its kind is full
      module _ (body : len ≤ rest - 4) (full : Bool) (f : full ≡ is_full room c.had kind) where
        bodied : ltb (length s) (c.at + 4 + length_at s c.at) ≡ false
        bodied = rw (← h.0) (le-ltb (length s) (c.at + 4 + len) (omega arith))

        filled : (b : Bool) → full ≡ b → is_full room c.had (kind_at s c.at) ≡ b
        filled b u = rw (← h.1, ← f) u

        pub too_many_lem : full ≡ true → r ≡ Err (refusal 32 c.at) → r ≡ record_step room s c
        unfolding record_step fault_of
        too_many_lem u e = rw (headed, placed h false t, bodied, filled true u) e

        module _ (u : full ≡ false) where
          fine : fault_of room s c ≡ Ok tt
          unfolding fault_of
          fine = rw (headed, placed h false t, bodied, filled false u)

          pub ended : kind ≡ 5 → r ≡ closed (says (end_faults s) (c.at + 4)) → r ≡ record_step room s c
          unfolding record_step
          ended k e = rw fine (taken _ (eq-eqb _ 5 (sym h.1 ∙ k)) e)

          pub onwards : (kind ≡ 5 → ⊥) → r ≡ Ok (Some (record { at = c.at + 4 + len; last = kind; had = counted kind c.had })) → r ≡ record_step room s c
          unfolding record_step
          onwards k e = rw fine (left _ (ne_eqb _ 5 (λ q. k (h.1 ∙ q))) (rw (← h.0, ← h.1) e))

-- where there is room for one more of a kind, the counts can be counted on
one_fits : (b : Bool) (m h r : ℕ) → b && leb r h ≡ false → h < m → r < m → h + one b < m
unfolding if_then
one_fits true m h r e p q = let z = leb-false r h e in omega arith
one_fits false m h r e p q = omega arith

pub one_more_lem : (t m : ℕ) (b : Bool) → b ≡ true → t + one b < m → t + 1 < m
unfolding if_then
one_more_lem t m true e h = h
one_more_lem t m false e h = absurd (true≢false (sym e))

pub count_fits : (m : ℕ) (room had : Tally) (kind : ℕ) → is_full room had kind ≡ false
    → (room.poses < m) × (room.edges < m) × (room.fixed < m) → (had.poses < m) × (had.edges < m) × (had.fixed < m)
    → ((counted kind had).poses < m) × ((counted kind had).edges < m) × ((counted kind had).fixed < m)
unfolding is_full
count_fits m room had kind e r h =
    let rest = neither_second (eqb kind 2 && leb room.poses had.poses) _ e in (
      one_fits (eqb kind 2) m _ _ (neither_first (eqb kind 2 && leb room.poses had.poses) _ e) h.0 r.0,
      one_fits (eqb kind 3) m _ _ (neither_first (eqb kind 3 && leb room.edges had.edges) _ rest) h.1 r.1,
      one_fits (eqb kind 4) m _ _ (neither_second (eqb kind 3 && leb room.edges had.edges) _ rest) h.2 r.2,
    )

-- two bytes as a number
pub pair_is : (s : List ℕ) (at : ℕ) → get_or s at 0 + 256 * get_or s (at + 1) 0 ≡ value_at 2 s at
unfolding value_at
pair_is s at = rw (add-one at) (omega arith)
