-- What the calls of a join come to: a job read into arrays of zeros is the job at their start, and its run and its writing are the job joined.
-- Assumes nothing.
use Prim.Native.Nat.{ℕ, ◌+◌, ◌*◌, ◌≤◌}
use native.Mathlib.Omega.{arith}
use Rattle.std.specs.Prelude.{Err, Ok, Result}
use mathlib.Core.Path.{◌≡◌, sym, ap, ◌∙◌}
use mathlib.Core.List.{List, ◌++◌, append_assoc}
use lib.ListN.{length, take, drop}
use lib.Seq.{length-take-le, take_at}
use lib.Ieee.{binary64}
use Rattle.numbers.specs.declared.Refusal.{Refusal}
use Rattle.sparse_pgo.specs.declared.Joined.{Joined}
use Rattle.printable.specs.declared.Printable.{Printable}
use Rattle.job_records.specs.Bytes.{pasted}
use Rattle.job.specs.Format.{Job, Space, space, room_in, filled, Reading, taken, refused, reading}
use Rattle.job.specs.Format.{settings_from, setting_numbers, read_gives, read_into, job_of}
use Rattle.job.specs.Writer.{written_into}
use Rattle.job_records.specs.declared.Tally.{Tally}
use Rattle.job.specs.declared.SettingBits.{SettingBits}
use Rattle.job.proofs.Again.{front, settings_back, given_taken}
use Rattle.job.proofs.Trips.{read_settings, read_lengths, read_tally}
use Rattle.join_job.specs.Joining.{patterns, run_of, job_run, judged_of, job_judged, report_as, written_with, joined_as, joined_with, joined_from, joined_into}

-- ---- what was read, run and written

module _ (t : SettingBits) (had : Tally) (l : Space) (out : List ℕ) where
  pub run_refused : (r : Refusal) → Err r ≡ judged_of t l → (Err r, 0, out) ≡ joined_with had (job_of t l) out
  unfolding joined_with job_run job_judged
  run_refused r e = ap (joined_as had (job_of t l) out (run_of t l)) e

  pub run_written : (j : Joined) (p : Printable) (new : List ℕ) (w : Result ℕ Refusal) (after : List ℕ) → Ok (j, p) ≡ judged_of t l
      → new ≡ patterns binary64 (run_of t l).out → (w, after) ≡ written_into (job_of t (space new l.ends l.edges l.fixed)) out
      → written_with (report_as had (Ok (j, p))) (w, after) ≡ joined_with had (job_of t l) out
  unfolding joined_with job_run job_judged
  run_written j p new w after e n q =
      ap (written_with (report_as had (Ok (j, p))))
      (q ∙ ap (λ (x : List ℕ). written_into (job_of t (space x l.ends l.edges l.fixed)) out) n)
      ∙ ap (joined_as had (job_of t l) out (run_of t l)) e

-- ---- what the reader gave

given_refused : (x : Reading) (l l' : Space) (r : Refusal) → (Err r, l') ≡ read_gives l x → x ≡ refused r
given_refused (taken h j) l l' r e = let q = ap (λ (y : Result (SettingBits × Tally) Refusal × Space). y.0) e in let z : ◌≡◌ {A = ℕ} 0 1 = cc in absurd (omega arith)
given_refused (refused k) l l' r e = let q = ap (λ (y : Result (SettingBits × Tally) Refusal × Space). y.0) e in let k-is : k ≡ r = cc in ap refused k-is

-- ---- arrays that a job was read into the front of

-- with other numbers at the front
abbrev pub fronted : Tally → Space → Space → Space
fronted t l' l =
    space (l'.poses ++ drop (12 * t.poses) l.poses) (l'.ends ++ drop (2 * t.edges) l.ends)
    (l'.edges ++ drop (8 * t.edges) l.edges) (l'.fixed ++ drop t.fixed l.fixed)

pasted_front : (n : ℕ) (ys l rest : List ℕ) → length ys ≡ n → take n (pasted 0 ys l ++ rest) ≡ ys
unfolding pasted
pasted_front n ys l rest e = ap (take n) (append_assoc ys (drop (0 + length ys) l) rest) ∙ take_at ys (drop (0 + length ys) l ++ rest) n e

tally_is : (t : Tally) (p e f : ℕ) → p ≡ t.poses → e ≡ t.edges → f ≡ t.fixed → record { poses = p; edges = e; fixed = f } ≡ t
tally_is t p e f x y z = rw (x, y, z)

job_is : (j : Job) (a b c d e : List ℕ) → a ≡ j.settings → b ≡ j.poses → c ≡ j.ends → d ≡ j.edges → e ≡ j.fixed
    → record { settings = a; poses = b; ends = c; edges = d; fixed = e } ≡ j
job_is j a b c d e p q r s t = rw (p, q, r, s, t)

pub record Blank (room : Tally) (l : Space) : Type 0 where
  pub room_fits : (room.poses ≤ 256) × (room.edges ≤ 1024) × (room.fixed ≤ 256)
  pub poses : length l.poses ≡ 3072
  pub ends : length l.ends ≡ 2048
  pub edges : length l.edges ≡ 8192
  pub fixed : length l.fixed ≡ 256

module _ (room : Tally) (l : Space) (b : Blank room l) where
  room_in_front : room_in (front room l) ≡ room
  room_in_front =
      let x = b.poses in let y = b.ends in let z = b.edges in let w = b.fixed in
      let h = b.room_fits.0 in let i = b.room_fits.1 in let k = b.room_fits.2 in
      let p : length (take (12 * room.poses) l.poses) ≡ 12 * room.poses = length-take-le _ _ (omega arith) in
      let e : length (take (2 * room.edges) l.ends) ≡ 2 * room.edges = length-take-le _ _ (omega arith) in
      let g : length (take (8 * room.edges) l.edges) ≡ 8 * room.edges = length-take-le _ _ (omega arith) in
      let f : length (take room.fixed l.fixed) ≡ room.fixed = length-take-le _ _ (omega arith) in
      tally_is room _ _ _ (omega arith) (omega arith) f

  module _ (s : List ℕ) (r : Result (SettingBits × Tally) Refusal) (l' : Space) (e : (r, l') ≡ read_into s (front room l)) where
    read_here : (r, l') ≡ read_gives (front room l) (reading room s)
    unfolding read_into
    read_here = e ∙ ap (λ (y : Tally). read_gives (front room l) (reading y s)) room_in_front

    pub within_refused : (x : Refusal) (out : List ℕ) → r ≡ Err x → (Err x, 0, out) ≡ joined_into room s out
    unfolding joined_into
    within_refused x out q =
        ap (joined_from out) (sym (given_refused (reading room s) (front room l) l' x (ap (λ (y : Result (SettingBits × Tally) Refusal). (y, l')) (sym q) ∙ read_here)))

    module _ (t : SettingBits) (had : Tally) (q : r ≡ Ok (t, had)) where
      found : (j : Job) × (reading room s ≡ taken had j) × (t ≡ settings_from j.settings) × (l' ≡ filled j (front room l))
      found = given_taken (reading room s) (front room l) l' t had (ap (λ (y : Result (SettingBits × Tally) Refusal). (y, l')) (sym q) ∙ read_here)

      pub had_fits : (had.poses ≤ 256) × (had.edges ≤ 1024) × (had.fixed ≤ 256)
      had_fits =
          let h = read_tally room s had found.0 found.1 in
          let x = h.1 in let y = h.2 in let z = h.3 in
          let i = b.room_fits.0 in let k = b.room_fits.1 in let m = b.room_fits.2 in
          (omega arith, omega arith, omega arith)

      job_again : job_of t (front had (fronted room l' l)) ≡ found.0
      unfolding filled
      job_again =
          let j = found.0 in
          let n = read_lengths room s had j found.1 in
          let set = (read_settings room s had j found.1).0 in
          let at = found.3 in
          job_is j _ _ _ _ _
          (ap setting_numbers (found.2 ∙ ap settings_from set) ∙ settings_back s ∙ sym set)
          (ap (λ (y : Space). take (12 * had.poses) (y.poses ++ drop (12 * room.poses) l.poses)) at ∙ pasted_front _ j.poses _ _ n.0)
          (ap (λ (y : Space). take (2 * had.edges) (y.ends ++ drop (2 * room.edges) l.ends)) at ∙ pasted_front _ j.ends _ _ n.1)
          (ap (λ (y : Space). take (8 * had.edges) (y.edges ++ drop (8 * room.edges) l.edges)) at ∙ pasted_front _ j.edges _ _ n.2)
          (ap (λ (y : Space). take had.fixed (y.fixed ++ drop room.fixed l.fixed)) at ∙ pasted_front _ j.fixed _ _ n.3)

      pub within_taken : (out : List ℕ) → joined_with had (job_of t (front had (fronted room l' l))) out ≡ joined_into room s out
      unfolding joined_into
      within_taken out = ap (λ (j : Job). joined_with had j out) job_again ∙ ap (joined_from out) (sym found.1)
