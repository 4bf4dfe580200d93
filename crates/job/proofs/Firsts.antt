-- Where reading stops: the cursors that it comes to over records without a fault, and what the step there is. Assumes nothing.
use Prim.Native.Nat.{ℕ, zero, suc, ◌+◌, ◌-◌, ◌<◌}
use native.Mathlib.Omega.{arith}
use mathlib.Core.Path.{◌≡◌, refl, sym, ap, subst, ◌∙◌}
use mathlib.Core.Logic.{◌⊎◌, inl, inr}
use mathlib.Core.List.{List}
use lib.ListN.{length}
use Rattle.numbers.specs.Notation.{if_then}
use Rattle.numbers.specs.Refusals.{refusal, Verdict}
use Rattle.numbers.specs.declared.Refusal.{Refusal}
use Rattle.job_records.specs.declared.Tally.{Tally}
use Rattle.job_records.specs.declared.Cursor.{Cursor}
use Rattle.job_records.specs.Records.{kind_at, fault_of, step_from, record_step}
use Rattle.job.specs.Format.{Job}
use Rattle.job.specs.Format.{holding, taken, refused, reading, first_cursor, empty_job}
use Rattle.job.proofs.Stepping.{CursorIn, cursor_on, cursor_start, from, from_start, from_on, from_done, from_stop}
use Rattle.std.proofs.lemmas.Grind.{common_steps}
use Rattle.std.specs.Prelude.{Option, Some, None, Result, Ok, Err}

-- reading comes to a cursor, with a job: over records without a fault
pub data Comes (room : Tally) (s : List ℕ) : Cursor → Job → Type 0 where
  begins : Comes room s first_cursor empty_job
  passes : {c d : Cursor} {j : Job} → Comes room s c j → record_step room s c ≡ Ok (Some d) → Comes room s d (holding s c.at j)

module _ (room : Tally) (s : List ℕ) where
  pub comes_in : {c : Cursor} {j : Job} → Comes room s c j → CursorIn s c
  comes_in begins = cursor_start s
  comes_in (passes {c = c} {d = d} w e) = (cursor_on room s c d (comes_in w) e).0

  -- reading is reading on from there
  pub comes_from : {c : Cursor} {j : Job} → Comes room s c j → reading room s ≡ from room s c j
  comes_from begins = from_start room s
  comes_from (passes {c = c} {d = d} {j = j} w e) = comes_from w ∙ from_on room s c d j (comes_in w) e

  pub there_taken : {c : Cursor} {j : Job} → Comes room s c j → record_step room s c ≡ Ok None → reading room s ≡ taken c.had j
  there_taken {c} {j} w e = comes_from w ∙ from_done room s c j e

  pub there_refused : {c : Cursor} {j : Job} {r : Refusal} → Comes room s c j → record_step room s c ≡ Err r → reading room s ≡ refused r
  there_refused {c} {j} {r} w e = comes_from w ∙ from_stop room s c j r e

  -- it comes to a last record, or to one that it refuses
  data Halts : Type 0 where
    done : (c : Cursor) (j : Job) → Comes room s c j → record_step room s c ≡ Ok None → Halts
    stops : (c : Cursor) (j : Job) (r : Refusal) → Comes room s c j → record_step room s c ≡ Err r → Halts

  halts_from : (n : ℕ) (c : Cursor) (j : Job) → Comes room s c j → length s - c.at < n → Halts
  halts_from zero c j w h = absurd (omega arith)
  halts_from (suc n) c j w h = go (record_step room s c) refl (λ (d : Cursor). halts_from n d (holding s c.at j))
    where
      go : (x : Result (Option Cursor) Refusal) → record_step room s c ≡ x
          → ((d : Cursor) → Comes room s d (holding s c.at j) → length s - d.at < n → Halts) → Halts
      go (Ok None) e next = done c j w e
      go (Err r) e next = stops c j r w e
      go (Ok (Some d)) e next =
          let q = cursor_on room s c d (comes_in w) e in
          let a = q.1 in let b = q.0.0 in
          next d (passes w e) (omega arith)

  halts : Halts
  halts = halts_from (suc (length s)) first_cursor empty_job begins (omega arith)

taken_not_refused : {t : Tally} {j : Job} {r : Refusal} → taken t j ≡ refused r → ⊥
taken_not_refused e = cc

refused_same : {r r' : Refusal} → refused r ≡ refused r' → r ≡ r'
refused_same e = cc

taken_tally : {t t' : Tally} {j j' : Job} → taken t j ≡ taken t' j' → t ≡ t'
taken_tally e = cc

taken_job : {t t' : Tally} {j j' : Job} → taken t j ≡ taken t' j' → j ≡ j'
taken_job e = cc

-- the refusal is that of the first record that has a fault
pub refused_there : (room : Tally) (s : List ℕ) (r : Refusal) → reading room s ≡ refused r
    → (c : Cursor) × (j : Job) × Comes room s c j × (record_step room s c ≡ Err r)
refused_there room s r e = go (halts room s)
  where
    go : Halts room s → (c : Cursor) × (j : Job) × Comes room s c j × (record_step room s c ≡ Err r)
    go (done c j w x) = absurd (taken_not_refused (sym (there_taken room s w x) ∙ e))
    go (stops c j q w x) = (c, j, w, x ∙ ap (λ (y : Refusal). Err y) (refused_same (sym (there_refused room s w x) ∙ e)))

-- what is taken ends at an end record, with what was counted and held on the way
pub taken_there : (room : Tally) (s : List ℕ) (t : Tally) (j : Job) → reading room s ≡ taken t j
    → (c : Cursor) × Comes room s c j × (record_step room s c ≡ Ok None) × (t ≡ c.had)
taken_there room s t j e = go (halts room s)
  where
    go : Halts room s → (c : Cursor) × Comes room s c j × (record_step room s c ≡ Ok None) × (t ≡ c.had)
    go (done c i w x) =
        let q : taken c.had i ≡ taken t j = sym (there_taken room s w x) ∙ e in
        (c, subst (λ (y : Job). Comes room s c y) (taken_job q) w, x, sym (taken_tally q))
    go (stops c i r w x) = absurd (taken_not_refused (sym e ∙ there_refused room s w x))

-- ---- what stops: a fault of the record, or a byte after the end

-- a byte after the end record of a cursor
abbrev pub ByteAfter : Tally → List ℕ → Cursor → Refusal → Type 0
ByteAfter room s c r =
    (fault_of room s c ≡ Ok tt) × (kind_at s c.at ≡ 5) × (c.at + 4 < length s) × (r ≡ refusal 30 (c.at + 4))

pub stop_is : (room : Tally) (s : List ℕ) (c : Cursor) (r : Refusal) → record_step room s c ≡ Err r
    → (fault_of room s c ≡ Err r) ⊎ ByteAfter room s c r
unfolding record_step if_then
stop_is room s c r e = go (fault_of room s c) refl
  where
    go : (v : Verdict) → fault_of room s c ≡ v → (fault_of room s c ≡ Err r) ⊎ ByteAfter room s c r
    go (Err q) p = inl (grind (arith, common_steps))
    go (Ok _) p = inr (p, grind (arith, common_steps), grind (arith, common_steps), grind (arith, common_steps))

pub is_stop : (room : Tally) (s : List ℕ) (c : Cursor) (r : Refusal)
    → (fault_of room s c ≡ Err r) ⊎ ByteAfter room s c r → record_step room s c ≡ Err r
unfolding record_step if_then
is_stop room s c r (inl e) = ap (step_from s c) e
is_stop room s c r (inr h) = grind (arith, common_steps)
