-- What a record without a fault is, what a step has passed, and that reading goes on from there; the count of records that bounds reading never ends it.
-- Assumes nothing.
use Prim.Native.Nat.{ℕ, zero, suc, ◌+◌, ◌-◌, ◌≤◌, ◌<◌}
use native.Mathlib.Omega.{arith}
use mathlib.Core.Path.{◌≡◌, refl, sym, ap, subst, ◌∙◌}
use mathlib.Core.Bool.{Bool, true, false, ◌&&◌}
use mathlib.Core.Logic.{⊎_elim}
use mathlib.Core.List.{List}
use borrow.Author.Tests.{eqb-true}
use lib.Dec.{eqb}
use lib.ListN.{length}
use Rattle.numbers.specs.Notation.{if_then}
use Rattle.numbers.specs.declared.Refusal.{Refusal}
use Rattle.numbers.proofs.Tests.{and_first, and_second, or_cases}
use Rattle.job_records.specs.declared.Tally.{Tally}
use Rattle.job_records.specs.declared.Cursor.{Cursor}
use Rattle.job_records.specs.Records.{kind_at, length_at, is_record, may_follow, is_full}
use Rattle.job_records.specs.Records.{fault_of, one, behind, record_step}
use Rattle.job.specs.Format.{Job}
use Rattle.job.specs.Format.{holding, Reading, taken, refused, read_on, read_from, reading, first_cursor, empty_job}
use Rattle.std.proofs.lemmas.Grind.{common_steps}
use Rattle.std.specs.Prelude.{Option, Some, None, Result, Ok, Err}

-- ---- kinds and lengths

pub data Kind (kind len : ℕ) : Type 0 where
  settings : kind ≡ 1 → len ≡ 16 → Kind kind len
  pose : kind ≡ 2 → len ≡ 96 → Kind kind len
  edge : kind ≡ 3 → len ≡ 40 → Kind kind len
  fixed : kind ≡ 4 → len ≡ 4 → Kind kind len
  end : kind ≡ 5 → len ≡ 0 → Kind kind len

both : (a b k n : ℕ) → (eqb a k && eqb b n) ≡ true → (a ≡ k) × (b ≡ n)
both a b k n e = (eqb-true a k (and_first (eqb a k) (eqb b n) e), eqb-true b n (and_second (eqb a k) (eqb b n) e))

pub kind_of : (kind len : ℕ) → is_record kind len ≡ true → Kind kind len
unfolding is_record
kind_of kind len e =
    ⊎_elim (λ a. let x = both kind len 1 16 a in settings x.0 x.1)
    (λ a. ⊎_elim (λ b. let x = both kind len 2 96 b in pose x.0 x.1)
    (λ b. ⊎_elim (λ d. let x = both kind len 3 40 d in edge x.0 x.1)
    (λ d. ⊎_elim (λ f. let x = both kind len 4 4 f in fixed x.0 x.1) (λ f. let x = both kind len 5 0 f in end x.0 x.1)
    (or_cases (eqb kind 4 && eqb len 4) _ d))
    (or_cases (eqb kind 3 && eqb len 40) _ b))
    (or_cases (eqb kind 2 && eqb len 96) _ a))
    (or_cases (eqb kind 1 && eqb len 16) _ e)

-- ---- a record without a fault

pub record FaultFree (room : Tally) (s : List ℕ) (c : Cursor) : Type 0 where
  pub header : c.at + 4 ≤ length s
  pub kind : Kind (kind_at s c.at) (length_at s c.at)
  pub follows : may_follow c.last (kind_at s c.at) ≡ true
  pub whole : c.at + 4 + length_at s c.at ≤ length s
  pub room_left : is_full room c.had (kind_at s c.at) ≡ false

pub fault_free : (room : Tally) (s : List ℕ) (c : Cursor) → fault_of room s c ≡ Ok tt → FaultFree room s c
unfolding fault_of
fault_free room s c e =
    record {
      header = grind (arith, common_steps);
      kind = kind_of (kind_at s c.at) (length_at s c.at) (grind (arith, common_steps));
      follows = grind (arith, common_steps);
      whole = grind (arith, common_steps);
      room_left = grind (arith, common_steps);
    }

-- a record that is no settings record stands behind one whose kind is no higher
pub rises : (last kind : ℕ) → may_follow last kind ≡ true → (kind ≡ 1 → ⊥) → (0 < last) × (last ≤ kind)
unfolding may_follow if_then
rises last kind e h = (grind (arith, common_steps), grind (arith, common_steps))

pub first : (last kind : ℕ) → may_follow last kind ≡ true → kind ≡ 1 → last ≡ 0
unfolding may_follow if_then
first last kind e k = grind (arith, common_steps)

-- there is room for one more of each kind
pub room_for_pose : (room had : Tally) (kind : ℕ) → is_full room had kind ≡ false → kind ≡ 2 → had.poses < room.poses
unfolding is_full
room_for_pose room had kind e k = grind (arith, common_steps)

pub room_for_edge : (room had : Tally) (kind : ℕ) → is_full room had kind ≡ false → kind ≡ 3 → had.edges < room.edges
unfolding is_full
room_for_edge room had kind e k = grind (arith, common_steps)

pub room_for_fixed : (room had : Tally) (kind : ℕ) → is_full room had kind ≡ false → kind ≡ 4 → had.fixed < room.fixed
unfolding is_full
room_for_fixed room had kind e k = grind (arith, common_steps)

-- ---- steps

pub record WentOn (room : Tally) (s : List ℕ) (c d : Cursor) : Type 0 where
  pub fine : fault_of room s c ≡ Ok tt
  pub no_end : kind_at s c.at ≡ 5 → ⊥
  pub is : d ≡ behind s c

pub record AtEnd (room : Tally) (s : List ℕ) (c : Cursor) : Type 0 where
  pub fine : fault_of room s c ≡ Ok tt
  pub end : kind_at s c.at ≡ 5
  pub last : length s ≡ c.at + 4

pub went_on : (room : Tally) (s : List ℕ) (c d : Cursor) → record_step room s c ≡ Ok (Some d) → WentOn room s c d
unfolding record_step if_then
went_on room s c d e = record { fine = grind (arith, common_steps); no_end = grind (arith, common_steps); is = grind (arith, common_steps) }

pub ended : (room : Tally) (s : List ℕ) (c : Cursor) → record_step room s c ≡ Ok None → AtEnd room s c
unfolding record_step if_then
ended room s c e =
    let f : fault_of room s c ≡ (Ok tt) = grind (arith, common_steps) in
    let h = (fault_free room s c f).header in
    record { fine = f; end = grind (arith, common_steps); last = grind (arith, common_steps) }

-- ---- a cursor that goes on

one_most : (b : Bool) → one b ≤ 1
unfolding if_then
one_most true = omega arith
one_most false = omega arith

-- a cursor that reading can come to: within the bytes, and it counted no more than it passed
abbrev pub CursorIn : List ℕ → Cursor → Type 0
CursorIn s c = (c.at ≤ length s) × (c.had.poses ≤ c.at) × (c.had.edges ≤ c.at) × (c.had.fixed ≤ c.at)

pub cursor_on : (room : Tally) (s : List ℕ) (c d : Cursor) → CursorIn s c → record_step room s c ≡ Ok (Some d) → CursorIn s d × (c.at < d.at)
cursor_on room s c d i e =
    let w = went_on room s c d e in
    let h = (fault_free room s c w.fine).whole in
    let k = kind_at s c.at in
    let a = one_most (eqb k 2) in let b = one_most (eqb k 3) in let f = one_most (eqb k 4) in
    let q : CursorIn s (behind s c) × (c.at < (behind s c).at) = ((h, omega arith, omega arith, omega arith), omega arith) in
    subst (λ (x : Cursor). CursorIn s x × (c.at < x.at)) (sym w.is) q

pub cursor_start : (s : List ℕ) → CursorIn s first_cursor
cursor_start s = (omega arith, omega arith, omega arith, omega arith)

-- ---- reading goes on. The count of records is larger than the bytes that are left, and so never ends it

module _ (room : Tally) (s : List ℕ) where
  pub enough : (n m : ℕ) (c : Cursor) (j : Job) → CursorIn s c → length s - c.at < n → length s - c.at < m → read_from n room s c j ≡ read_from m room s c j
  unfolding read_from
  enough zero m c j i p q = absurd (omega arith)
  enough (suc n) zero c j i p q = absurd (omega arith)
  enough (suc n) (suc m) c j i p q =
      go (record_step room s c) refl (λ (d : Cursor). enough n m d (holding s c.at j))
    where
      go : (x : Result (Option Cursor) Refusal) → record_step room s c ≡ x
          → ((d : Cursor) → CursorIn s d → length s - d.at < n → length s - d.at < m
          → read_from n room s d (holding s c.at j) ≡ read_from m room s d (holding s c.at j))
          → read_on (read_from n room s) s c j x ≡ read_on (read_from m room s) s c j x
      go (Ok None) e rec = refl
      go (Err r) e rec = refl
      go (Ok (Some d)) e rec =
          let w = cursor_on room s c d i e in
          let a = w.1 in let b = w.0.0 in
          rec d w.0 (omega arith) (omega arith)

  -- what reading gives from a cursor on
  abbrev pub from : Cursor → Job → Reading
  from c j = read_from (suc (length s - c.at)) room s c j

  pub from_start : reading room s ≡ from first_cursor empty_job
  unfolding reading
  from_start = enough (suc (length s)) (suc (length s - 0)) first_cursor empty_job (cursor_start s) (omega arith) (omega arith)

  pub from_on : (c d : Cursor) (j : Job) → CursorIn s c → record_step room s c ≡ Ok (Some d) → from c j ≡ from d (holding s c.at j)
  unfolding read_from
  from_on c d j i e =
      let w = cursor_on room s c d i e in
      let a = w.1 in let b = w.0.0 in
      ap (read_on (read_from (length s - c.at) room s) s c j) e
      ∙ enough (length s - c.at) (suc (length s - d.at)) d (holding s c.at j) w.0 (omega arith) (omega arith)

  pub from_done : (c : Cursor) (j : Job) → record_step room s c ≡ Ok None → from c j ≡ taken c.had j
  unfolding read_from
  from_done c j e = ap (read_on (read_from (length s - c.at) room s) s c j) e

  pub from_stop : (c : Cursor) (j : Job) (r : Refusal) → record_step room s c ≡ Err r → from c j ≡ refused r
  unfolding read_from
  from_stop c j r e = ap (read_on (read_from (length s - c.at) room s) s c j) e
