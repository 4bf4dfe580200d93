-- What a cursor of the reader stands for: what was read up to it and is held in the lent numbers, and how both go on over one record. Assumes nothing.
use Prim.Native.Nat.{ℕ, ◌+◌, ◌*◌, ◌/◌, ◌-◌, ◌≤◌, ◌<◌}
use native.Mathlib.Nat.{min-le_left, min-le_right}
use native.Mathlib.Omega.{arith}
use mathlib.Core.Path.{◌≡◌, refl, sym, ap, subst, ◌∙◌}
use mathlib.Core.Bool.{Bool, true, false}
use mathlib.Core.List.{List, [], ◌∷◌, ◌++◌}
use borrow.Author.Tests.{eqb-true}
use lib.Dec.{eqb}
use lib.ListN.{length, get_or, length-append}
use Rattle.numbers.specs.Notation.{if_then}
use Rattle.numbers.specs.declared.Refusal.{Refusal}
use Rattle.numbers.proofs.Tables.{length_table}
use Rattle.job_records.specs.declared.Tally.{Tally}
use Rattle.job_records.specs.declared.Cursor.{Cursor}
use Rattle.job_records.specs.Bytes.{pasted}
use Rattle.job_records.specs.Records.{kind_at, length_at, is_full, fault_of, one, behind, record_step}
use Rattle.job.specs.Format.{Job, numbers_if, holding, Reading, reading}
use Rattle.job.specs.Format.{first_cursor, empty_job, Space, space, room_in, filled, scanned_as, IsTaken, taking, filled_by}
use Rattle.job.proofs.Pasting.{pasted_none, pasted_more, length_pasted}
use Rattle.job.proofs.Stepping.{CursorIn, Kind, settings, pose, edge, fixed, end, fault_free, room_for_pose, room_for_edge, room_for_fixed, went_on}
use Rattle.job.proofs.Stepping.{cursor_on, cursor_start, from, from_start, from_on, from_done, from_stop}
use Rattle.std.specs.Prelude.{Option, Some, None, Result, Ok, Err}

-- ---- what the scan knows at a cursor

-- what the step at a cursor is, by the two patterns that its answer was matched against
pub stepped : {T E : Type 0} {x y : Result (Option T) E} {o p : Option T} → x ≡ y → x ≡ Ok o → o ≡ p → y ≡ Ok p
stepped e q r = sym e ∙ q ∙ ap (λ o. Ok o) r

pub record Seen (room : Tally) (s : List ℕ) (c : Cursor) : Type 0 where
  pub cursor : CursorIn s c
  pub job : Job
  pub is : reading room s ≡ from room s c job

abbrev pub seen_start : (room : Tally) (s : List ℕ) → Seen room s first_cursor
seen_start room s = record { cursor = cursor_start s; job = empty_job; is = from_start room s }

module _ {room : Tally} {s : List ℕ} {c : Cursor} (h : Seen room s c) where
  abbrev pub seen_on : (d : Cursor) → record_step room s c ≡ Ok (Some d) → Seen room s d
  seen_on d e =
      record {
        cursor = (cursor_on room s c d h.cursor e).0;
        job = holding s c.at h.job;
        is = h.is ∙ from_on room s c d h.job h.cursor e;
      }

  pub seen_less : (d : Cursor) → record_step room s c ≡ Ok (Some d) → length s - d.at < length s - c.at
  seen_less d e =
      let w = cursor_on room s c d h.cursor e in
      let a = w.1 in let b = w.0.0 in
      omega arith

  pub seen_done : record_step room s c ≡ Ok None → Ok c.had ≡ scanned_as (reading room s)
  seen_done e = sym (ap scanned_as (h.is ∙ from_done room s c h.job e))

  pub seen_stop : (r : Refusal) → record_step room s c ≡ Err r → Err r ≡ scanned_as (reading room s)
  seen_stop r e = sym (ap scanned_as (h.is ∙ from_stop room s c h.job r e))

-- ---- a record of a kind: it is whole, there is room for what it holds, and that is what is taken

-- the length of a body, by its kind
abbrev pub body_length : ℕ → ℕ
body_length kind = get_or (0 ∷ 16 ∷ 96 ∷ 40 ∷ 4 ∷ 0 ∷ []) kind 0

pub body_length_lem : {kind n : ℕ} → Kind kind n → n ≡ body_length kind
body_length_lem (settings p q) = q ∙ sym (ap body_length p)
body_length_lem (pose p q) = q ∙ sym (ap body_length p)
body_length_lem (edge p q) = q ∙ sym (ap body_length p)
body_length_lem (fixed p q) = q ∙ sym (ap body_length p)
body_length_lem (end p q) = q ∙ sym (ap body_length p)

all_four : {a b c d a' b' c' d' : List ℕ} → a ≡ a' → b ≡ b' → c ≡ c' → d ≡ d' → space a b c d ≡ space a' b' c' d'
all_four p q r t = rw (p, q, r, t)

-- the room in numbers
in_poses : {room : Tally} (l : Space) → room ≡ room_in l → 12 * room.poses ≤ length l.poses
in_poses {room} l e = let a = ap (λ (t : Tally). t.poses) e in omega arith

in_edges : {room : Tally} (l : Space) → room ≡ room_in l → (2 * room.edges ≤ length l.ends) × (8 * room.edges ≤ length l.edges)
in_edges {room} l e =
    let a = ap (λ (t : Tally). t.edges) e in
    let b = min-le_left (length l.ends / 2) (length l.edges / 8) in
    let d = min-le_right (length l.ends / 2) (length l.edges / 8) in
    (omega arith, omega arith)

in_fixed : {room : Tally} (l : Space) → room ≡ room_in l → room.fixed ≡ length l.fixed
in_fixed l e = ap (λ (t : Tally). t.fixed) e

module _ (s : List ℕ) (c : Cursor) (l : Space) (fine : fault_of (room_in l) s c ≡ Ok tt) where
  pub pose_there : kind_at s c.at ≡ 2 → (c.at + 100 ≤ length s) × (12 * c.had.poses + 12 ≤ length l.poses)
  pose_there k =
      let h = fault_free (room_in l) s c fine in
      let n : length_at s c.at ≡ 96 = body_length_lem h.kind ∙ ap body_length k in
      let w = h.whole in
      let r = room_for_pose (room_in l) c.had (kind_at s c.at) h.room_left k in
      (omega arith, omega arith)

  pub edge_there : kind_at s c.at ≡ 3
      → (c.at + 44 ≤ length s) × (2 * c.had.edges + 2 ≤ length l.ends) × (8 * c.had.edges + 8 ≤ length l.edges)
  edge_there k =
      let h = fault_free (room_in l) s c fine in
      let n : length_at s c.at ≡ 40 = body_length_lem h.kind ∙ ap body_length k in
      let w = h.whole in
      let r = room_for_edge (room_in l) c.had (kind_at s c.at) h.room_left k in
      let m = in_edges {room = room_in l} l refl in
      (omega arith, omega arith, omega arith)

  pub fixed_there : kind_at s c.at ≡ 4 → (c.at + 8 ≤ length s) × (c.had.fixed + 1 ≤ length l.fixed)
  fixed_there k =
      let h = fault_free (room_in l) s c fine in
      let n : length_at s c.at ≡ 4 = body_length_lem h.kind ∙ ap body_length k in
      let w = h.whole in
      let r = room_for_fixed (room_in l) c.had (kind_at s c.at) h.room_left k in
      (omega arith, omega arith)

-- ---- what is held at a cursor: the job read so far, from the start of each list on

pub record Held (room : Tally) (s : List ℕ) (l₀ : Space) (c : Cursor) (l : Space) : Type 0 where
  pub seen : Seen room s c
  pub room_is : room ≡ room_in l₀
  pub room_poses : c.had.poses ≤ room.poses
  pub room_edges : c.had.edges ≤ room.edges
  pub room_fixed : c.had.fixed ≤ room.fixed
  pub poses : length seen.job.poses ≡ 12 * c.had.poses
  pub ends : length seen.job.ends ≡ 2 * c.had.edges
  pub edges : length seen.job.edges ≡ 8 * c.had.edges
  pub fixed : length seen.job.fixed ≡ c.had.fixed
  pub now : l ≡ filled seen.job l₀

-- of one list: what is put behind it, how long it is then, and that there is room
length_if : (b : Bool) (n : ℕ) (ys : List ℕ) → length ys ≡ n → length (numbers_if b ys) ≡ n * one b
unfolding if_then
length_if true n ys e = omega arith
length_if false n ys e = omega arith

room_if : (b : Bool) (h r : ℕ) → h ≤ r → (b ≡ true → h < r) → h + one b ≤ r
unfolding if_then
room_if true h r p q = let z = q refl in omega arith
room_if false h r p q = omega arith

longer : (b : Bool) (p n : ℕ) (xs ys : List ℕ) → length xs ≡ p → length ys ≡ n → length (xs ++ numbers_if b ys) ≡ p + n * one b
longer b p n xs ys e f = let z = length_if b n ys f in rw (length-append xs (numbers_if b ys)) (omega arith)

more : (b : Bool) (p n : ℕ) (xs ys l : List ℕ) → length xs ≡ p → length ys ≡ n → p + n * one b ≤ length l
    → pasted p (numbers_if b ys) (pasted 0 xs l) ≡ pasted 0 (xs ++ numbers_if b ys) l
more b p n xs ys l e f h = let z = length_if b n ys f in pasted_more 0 p xs (numbers_if b ys) l (omega arith) (omega arith)

-- over one record
module _ {room : Tally} {s : List ℕ} {l₀ : Space} {c : Cursor} {l : Space} (h : Held room s l₀ c l) (d : Cursor) (e : record_step room s c ≡ Ok (Some d)) where
  abbrev k : ℕ
  k = kind_at s c.at

  left_over : is_full room c.had k ≡ false
  left_over = (fault_free room s c (went_on room s c d e).fine).room_left

  fits_poses : c.had.poses + one (eqb k 2) ≤ room.poses
  fits_poses = room_if (eqb k 2) _ _ h.room_poses (λ t. room_for_pose room c.had k left_over (eqb-true k 2 t))

  fits_edges : c.had.edges + one (eqb k 3) ≤ room.edges
  fits_edges = room_if (eqb k 3) _ _ h.room_edges (λ t. room_for_edge room c.had k left_over (eqb-true k 3 t))

  fits_fixed : c.had.fixed + one (eqb k 4) ≤ room.fixed
  fits_fixed = room_if (eqb k 4) _ _ h.room_fixed (λ t. room_for_fixed room c.had k left_over (eqb-true k 4 t))

  filled_on : taking s c (filled h.seen.job l₀) ≡ filled (holding s c.at h.seen.job) l₀
  unfolding taking filled holding
  filled_on =
      let f = fits_poses in let g = fits_edges in let i = fits_fixed in
      let r = in_poses l₀ h.room_is in let t = in_edges l₀ h.room_is in let u = in_fixed l₀ h.room_is in
      all_four (more (eqb k 2) _ 12 _ _ l₀.poses h.poses (length_table _ 12) (omega arith))
      (more (eqb k 3) _ 2 _ _ l₀.ends h.ends (length_table _ 2) (omega arith))
      (more (eqb k 3) _ 8 _ _ l₀.edges h.edges (length_table _ 8) (omega arith))
      (more (eqb k 4) _ 1 _ _ l₀.fixed h.fixed (length_table _ 1) (omega arith))

  pub held_on : (m : Space) → m ≡ taking s c l → Held room s l₀ d m
  unfolding holding
  held_on m x =
      let w = (went_on room s c d e).is in
      let j = h.seen.job in
      let q : Held room s l₀ (behind s c) m =
      record {
        seen = seen_on h.seen (behind s c) (e ∙ ap (λ (x : Cursor). Ok (Some x)) w);
        room_is = h.room_is;
        room_poses = fits_poses;
        room_edges = fits_edges;
        room_fixed = fits_fixed;
        poses = longer (eqb k 2) _ 12 j.poses _ h.poses (length_table _ 12) ∙ omega arith;
        ends = longer (eqb k 3) _ 2 j.ends _ h.ends (length_table _ 2) ∙ omega arith;
        edges = longer (eqb k 3) _ 8 j.edges _ h.edges (length_table _ 8) ∙ omega arith;
        fixed = longer (eqb k 4) _ 1 j.fixed _ h.fixed (length_table _ 1) ∙ omega arith;
        now = x ∙ ap (taking s c) h.now ∙ filled_on;
      } in
      subst (λ (y : Cursor). Held room s l₀ y m) (sym w) q

-- at the start, where a record is taken, and at the end
pub held_start : (room : Tally) (s : List ℕ) (l₀ : Space) → room ≡ room_in l₀ → Held room s l₀ first_cursor l₀
unfolding filled
held_start room s l₀ r =
    record {
      seen = seen_start room s;
      room_is = r;
      room_poses = omega arith;
      room_edges = omega arith;
      room_fixed = omega arith;
      poses = refl;
      ends = refl;
      edges = refl;
      fixed = refl;
      now = sym (all_four (pasted_none 0 l₀.poses) (pasted_none 0 l₀.ends) (pasted_none 0 l₀.edges) (pasted_none 0 l₀.fixed));
    }

module _ {room : Tally} {s : List ℕ} {l₀ : Space} {c : Cursor} {l : Space} (h : Held room s l₀ c l) where
  pub same_lengths : (length l.poses ≡ length l₀.poses) × (length l.ends ≡ length l₀.ends) × (length l.edges ≡ length l₀.edges)
      × (length l.fixed ≡ length l₀.fixed)
  unfolding filled
  same_lengths =
      let r = in_poses l₀ h.room_is in let t = in_edges l₀ h.room_is in let u = in_fixed l₀ h.room_is in (
        ap (λ (x : Space). length x.poses) h.now ∙ length_pasted 0 h.seen.job.poses l₀.poses (omega arith),
        ap (λ (x : Space). length x.ends) h.now ∙ length_pasted 0 h.seen.job.ends l₀.ends (omega arith),
        ap (λ (x : Space). length x.edges) h.now ∙ length_pasted 0 h.seen.job.edges l₀.edges (omega arith),
        ap (λ (x : Space). length x.fixed) h.now ∙ length_pasted 0 h.seen.job.fixed l₀.fixed (omega arith),
      )

  pub same_room : room ≡ room_in l
  same_room = h.room_is ∙ sym (let n = same_lengths in rw (n.0, n.1, n.2, n.3))

  fine_here : (d : Cursor) → record_step room s c ≡ Ok (Some d) → fault_of (room_in l) s c ≡ Ok tt
  fine_here d e = subst (λ (r : Tally). fault_of r s c ≡ Ok tt) same_room (went_on room s c d e).fine

  pub kind_is : (d : Cursor) → record_step room s c ≡ Ok (Some d) → d.last ≡ kind_at s c.at
  kind_is d e = ap (λ (x : Cursor). x.last) (went_on room s c d e).is

  pub pose_may : (d : Cursor) → record_step room s c ≡ Ok (Some d) → d.last ≡ 2 → (c.at + 100 ≤ length s) × (12 * c.had.poses + 12 ≤ length l.poses)
  pose_may d e k = pose_there s c l (fine_here d e) (sym (kind_is d e) ∙ k)

  pub edge_may : (d : Cursor) → record_step room s c ≡ Ok (Some d) → d.last ≡ 3
      → (c.at + 44 ≤ length s) × (2 * c.had.edges + 2 ≤ length l.ends) × (8 * c.had.edges + 8 ≤ length l.edges)
  edge_may d e k = edge_there s c l (fine_here d e) (sym (kind_is d e) ∙ k)

  pub fixed_may : (d : Cursor) → record_step room s c ≡ Ok (Some d) → d.last ≡ 4 → (c.at + 8 ≤ length s) × (c.had.fixed + 1 ≤ length l.fixed)
  fixed_may d e k = fixed_there s c l (fine_here d e) (sym (kind_is d e) ∙ k)

  pub held_done : record_step room s c ≡ Ok None → l ≡ filled_by (reading room s) l₀
  held_done e = h.now ∙ sym (ap (λ (x : Reading). filled_by x l₀) (h.seen.is ∙ from_done room s c h.seen.job e))

  pub never_stops : (r : Refusal) → record_step room s c ≡ Err r → IsTaken (reading room s) → ⊥
  never_stops r e t = subst IsTaken (h.seen.is ∙ from_stop room s c h.seen.job r e) t
