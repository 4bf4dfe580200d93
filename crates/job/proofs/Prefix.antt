-- What stands past so many bytes as a job for a room can take, and one byte, changes no answer of reading. Assumes nothing.
use Prim.Native.Nat.{ℕ, zero, suc, ◌+◌, ◌*◌, ◌≤◌, ◌<◌}
use native.Mathlib.Omega.{arith}
use native.Mathlib.Nat.{mul-le-mul_left}
use mathlib.Core.Path.{◌≡◌, refl, sym, ap, subst, ◌∙◌}
use mathlib.Core.Logic.{⊎_elim}
use mathlib.Core.Bool.{Bool, true, false, not, ◌&&◌}
use mathlib.Core.List.{List}
use borrow.Author.Tests.{lt-ltb, le-ltb, leb-true, leb-false}
use lib.Dec.{leb}
use lib.ListN.{length, get_or, take}
use lib.Seq.{get_or-take, length-take-le, take_all}
use Rattle.numbers.specs.Notation.{if_then}
use Rattle.numbers.specs.Refusals.{or_else, ask, Verdict}
use Rattle.numbers.specs.declared.Refusal.{Refusal}
use Rattle.numbers.proofs.Tests.{and_first, true_or_false}
use Rattle.numbers.proofs.Tables.{table_ext}
use Rattle.job_records.specs.declared.Tally.{Tally}
use Rattle.job_records.specs.declared.Cursor.{Cursor}
use Rattle.job_records.specs.Bytes.{value_at, values_at}
use Rattle.job_records.specs.Records.{kind_at, length_at, is_record, may_follow, is_full, fault_of, counted, step_from, record_step}
use Rattle.job.specs.Format.{Job, read_at_most}
use Rattle.job.specs.Format.{holding, read_on, read_from, reading, first_cursor, empty_job}
use Rattle.job.proofs.Stepping.{Kind, settings, pose, edge, fixed, end, kind_of, fault_free, first, room_for_pose, room_for_edge, room_for_fixed}
use Rattle.job.proofs.Stepping.{went_on, enough, cursor_start}
use Rattle.std.specs.Prelude.{Option, Some, None, Result, Ok, Err}

-- ---- how far a cursor that reading comes to has gone

record Within (room : Tally) (c : Cursor) : Type 0 where
  pub fresh : c.last ≡ 0 → c.at ≡ 0
  pub place : c.at ≤ 20 + 100 * c.had.poses + 44 * c.had.edges + 8 * c.had.fixed
  pub poses_most : c.had.poses ≤ room.poses
  pub edges_most : c.had.edges ≤ room.edges
  pub fixed_most : c.had.fixed ≤ room.fixed

within_start : (room : Tally) → Within room first_cursor
within_start room = record { fresh = λ z. refl; place = omega arith; poses_most = omega arith; edges_most = omega arith; fixed_most = omega arith }

-- a record of each kind passed
passed : (room : Tally) (c : Cursor) (k n : ℕ) → Within room c → Kind k n → (k ≡ 5 → ⊥) → may_follow c.last k ≡ true → is_full room c.had k ≡ false
    → Within room (record { at = c.at + 4 + n; last = k; had = counted k c.had })
unfolding if_then
passed room c k n i (settings p q) u f r =
    let z = i.fresh (first c.last k f p) in
    rw (p, q) (record {
      fresh = λ y. omega arith;
      place = omega arith;
      poses_most = omega (arith, i.poses_most);
      edges_most = omega (arith, i.edges_most);
      fixed_most = omega (arith, i.fixed_most);
    })
passed room c k n i (pose p q) u f r =
    let z = room_for_pose room c.had k r p in
    rw (p, q) (record {
      fresh = λ y. omega arith;
      place = omega (arith, i.place);
      poses_most = omega arith;
      edges_most = omega (arith, i.edges_most);
      fixed_most = omega (arith, i.fixed_most);
    })
passed room c k n i (edge p q) u f r =
    let z = room_for_edge room c.had k r p in
    rw (p, q) (record {
      fresh = λ y. omega arith;
      place = omega (arith, i.place);
      poses_most = omega (arith, i.poses_most);
      edges_most = omega arith;
      fixed_most = omega (arith, i.fixed_most);
    })
passed room c k n i (fixed p q) u f r =
    let z = room_for_fixed room c.had k r p in
    rw (p, q) (record {
      fresh = λ y. omega arith;
      place = omega (arith, i.place);
      poses_most = omega (arith, i.poses_most);
      edges_most = omega (arith, i.edges_most);
      fixed_most = omega arith;
    })
passed room c k n i (end p q) u f r = absurd (u p)

within_on : (room : Tally) (s : List ℕ) (c d : Cursor) → Within room c → record_step room s c ≡ Ok (Some d) → Within room d
within_on room s c d i e =
    let w = went_on room s c d e in
    let h = fault_free room s c w.fine in
    subst (Within room) (sym w.is) (passed room c (kind_at s c.at) (length_at s c.at) i h.kind w.no_end h.follows h.room_left)

-- ---- what is read of two lists that agree so far

value_same : (w : ℕ) (s t : List ℕ) (at : ℕ) → ((k : ℕ) → k < at + w → get_or t k 0 ≡ get_or s k 0) → value_at w t at ≡ value_at w s at
unfolding value_at
value_same zero s t at f = refl
value_same (suc w) s t at f = rw (f at (omega arith), value_same w s t (suc at) (λ k h. f k (omega arith)))

-- whether a body is whole is asked only of a known kind and its length
asked_same : (ok x y full : Bool) (p : ℕ) → (ok ≡ true → x ≡ y)
    → or_else (or_else (ask (not ok) 30 p) (ask x 31 p)) (ask full 32 p) ≡ or_else (or_else (ask (not ok) 30 p) (ask y 31 p)) (ask full 32 p)
asked_same true x y full p f = ap (λ (b : Bool). or_else (ask b 31 p) (ask full 32 p)) (f refl)
asked_same false x y full p f = refl

body_most : {k n : ℕ} → Kind k n → n ≤ 96
body_most (settings p q) = omega arith
body_most (pose p q) = omega arith
body_most (edge p q) = omega arith
body_most (fixed p q) = omega arith
body_most (end p q) = omega arith

module _ (room : Tally) (s : List ℕ) (b : ℕ) (most : read_at_most room ≤ b) (long : b < length s) where
  seen : length (take b s) ≡ b
  seen = length-take-le b s (omega arith)

  value_seen : (w at : ℕ) → at + w ≤ b → value_at w (take b s) at ≡ value_at w s at
  value_seen w at h = value_same w s (take b s) at (λ k x. get_or-take b s k 0 (omega arith))

  values_seen : (w n at : ℕ) → at + w * n ≤ b → values_at w n (take b s) at ≡ values_at w n s at
  values_seen w n at h =
      table_ext 0 (λ i. value_at w (take b s) (at + w * i)) (λ i. value_at w s (at + w * i)) n
      (λ i x. value_seen w (at + w * i) (omega (arith, mul-le-mul_left w x)))

  near : (c : Cursor) → Within room c → c.at + 101 ≤ b
  near c i = let a = i.place in let p = i.poses_most in let e = i.edges_most in let f = i.fixed_most in omega arith

  fault_same : (c : Cursor) → c.at + 101 ≤ b → fault_of room (take b s) c ≡ fault_of room s c
  unfolding fault_of
  fault_same c h =
      let z = seen in
      simp (
        le-ltb (length (take b s)) (c.at + 4) (omega arith),
        le-ltb (length s) (c.at + 4) (omega arith),
        value_seen 2 c.at (omega arith),
        value_seen 2 (c.at + 2) (omega arith),
      )
      (asked_same (is_record (kind_at s c.at) (length_at s c.at) && may_follow c.last (kind_at s c.at)) _ _
      (is_full room c.had (kind_at s c.at)) c.at
      (λ q.
      let m = body_most (kind_of (kind_at s c.at) (length_at s c.at) (and_first _ (may_follow c.last (kind_at s c.at)) q)) in
      le-ltb (length (take b s)) (c.at + 4 + length_at s c.at) (omega arith)
      ∙ sym (le-ltb (length s) (c.at + 4 + length_at s c.at) (omega arith))))

  from_same : (c : Cursor) (v : Verdict) → c.at + 101 ≤ b → step_from (take b s) c v ≡ step_from s c v
  from_same c (Err r) h = refl
  from_same c (Ok _) h =
      let z = seen in
      simp (
        lt-ltb (c.at + 4) (length (take b s)) (omega arith),
        lt-ltb (c.at + 4) (length s) (omega arith),
        value_seen 2 c.at (omega arith),
        value_seen 2 (c.at + 2) (omega arith),
      )

  step_same : (c : Cursor) → c.at + 101 ≤ b → record_step room (take b s) c ≡ record_step room s c
  unfolding record_step
  step_same c h = ap (step_from (take b s) c) (fault_same c h) ∙ from_same c (fault_of room s c) h

  holding_same : (at : ℕ) (j : Job) → at + 101 ≤ b → holding (take b s) at j ≡ holding s at j
  unfolding holding
  holding_same at j h =
      rw (
        value_seen 2 (at + 2) (omega arith),
        values_seen 4 4 (at + 4) (omega arith),
        values_seen 8 12 (at + 4) (omega arith),
        values_seen 4 2 (at + 4) (omega arith),
        values_seen 4 8 (at + 12) (omega arith),
        values_seen 4 1 (at + 4) (omega arith),
      )

  same : (n : ℕ) (c : Cursor) (j : Job) → Within room c → read_from n room (take b s) c j ≡ read_from n room s c j
  unfolding read_from
  same zero c j i = refl
  same (suc n) c j i =
      ap (read_on (read_from n room (take b s)) (take b s) c j) (step_same c (near c i))
      ∙ go (record_step room s c) refl (λ (d : Cursor). same n d (holding s c.at j))
    where
      go : (x : Result (Option Cursor) Refusal) → record_step room s c ≡ x
          → ((d : Cursor) → Within room d → read_from n room (take b s) d (holding s c.at j) ≡ read_from n room s d (holding s c.at j))
          → read_on (read_from n room (take b s)) (take b s) c j x ≡ read_on (read_from n room s) s c j x
      go (Ok None) e rec = refl
      go (Err r) e rec = refl
      go (Ok (Some d)) e rec = ap (read_from n room (take b s) d) (holding_same c.at j (near c i)) ∙ rec d (within_on room s c d i e)

  cut_same : reading room (take b s) ≡ reading room s
  unfolding reading
  cut_same =
      let z = seen in
      enough room (take b s) (suc (length (take b s))) (suc (length s)) first_cursor empty_job (cursor_start (take b s)) (omega arith) (omega arith)
      ∙ same (suc (length s)) first_cursor empty_job (within_start room)

pub prefix : (room : Tally) (s : List ℕ) (b : ℕ) → read_at_most room ≤ b → reading room (take b s) ≡ reading room s
prefix room s b h =
    ⊎_elim (λ e. ap (reading room) (take_all b s (leb-true (length s) b e))) (λ e. cut_same room s b h (leb-false (length s) b e))
    (true_or_false (leb (length s) b))
